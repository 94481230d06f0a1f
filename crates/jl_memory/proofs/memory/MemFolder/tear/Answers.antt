use Rattle.std.proofs.Common.{◌≤◌, ◌-◌, ◌^◌, take, inl, inr, refl, arith}
use Rattle.jl_folder.specs.declared.moves.Move.TheVariants.{Append}
use Rattle.jl_memory.proofs.CallLemmas.{acts_none, acts_made, acts_failed}
use Rattle.jl_memory.proofs.memory.MemFolder.tear.Goals as goal

pub returns-in_default-clause-acts : goal.returns-in_default-clause-acts
returns-in_default-clause-acts c =
    let m = c.args.self.now in
    let most : m.faults ≤ 2 ^ 64 - 1 = omega arith in
    acts_failed m m _ _ ⊥ _ (acts_none m ⊥ _ (λ e. e) (λ t. inl refl)) (λ e. e) refl most c.saturating_add-self.ensures

pub returns-clause-acts : goal.returns-clause-acts
returns-clause-acts c =
    let m = c.args.self.now in
    let n = c.add_piece.new.self in
    let adds = c.add_piece.ensures.added c.if-not-add_piece.false in
    let most : m.faults ≤ 2 ^ 64 - 1 = omega (arith, adds.made.keeps.faults) in
    acts_failed m n _ _ ⊥ _ (acts_made m n (Append adds.file.node (take c.in-Some.count c.args.bytes.now)) ⊥ _ adds.made (λ e. e)
    (λ t. (t.opens c.args.number.0 adds.file adds.was_open, inr (c.in-Some.count, c.in-Some.ensures.within, record { file = adds.file; was_open = adds.was_open; move_is = refl })))) (λ e. e) refl most c.saturating_add-self-2.ensures
