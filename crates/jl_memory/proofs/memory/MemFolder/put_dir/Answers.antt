use Rattle.std.proofs.Common.{◌≡◌, true, None, Some, is_some, sym, ◌∙◌, ap, subst, refl, inl}
use Rattle.jl_folder.specs.declared.moves.Move.TheVariants.{MakeDir}
use Rattle.jl_folder.specs.State.{Allowed, place_at, has_parent}
use Rattle.jl_memory.specs.Memory.{mem_state, IsTold}
use Rattle.jl_memory.proofs.TableLemmas.{not_some}
use Rattle.jl_memory.proofs.CallLemmas.{acts_none, acts_made, acts_stays}
use Rattle.jl_memory.proofs.memory.MemFolder.put_dir.Goals as goal

pub returns-then-is_some-clause-acts : goal.returns-then-is_some-clause-acts
returns-then-is_some-clause-acts c =
    let m = c.args.self.now in
    let named : IsTold m → place_at (mem_state m) c.args.path.now ≡ c.place.result = λ t. ap (place_at (mem_state m)) (sym c.parts.ensures.same) ∙ sym (c.place.ensures t.disk) in
    acts_none m _ _ (λ e. cc) (λ t. (ap is_some (named t) ∙ sym c.is_some.ensures ∙ c.if-is_some.true, refl))

pub returns-then-not-has_parent-clause-acts : goal.returns-then-not-has_parent-clause-acts
returns-then-not-has_parent-clause-acts c =
    let m = c.args.self.now in
    let named : IsTold m → place_at (mem_state m) c.args.path.now ≡ c.place.result = λ t. ap (place_at (mem_state m)) (sym c.parts.ensures.same) ∙ sym (c.place.ensures t.disk) in
    let free : IsTold m → place_at (mem_state m) c.args.path.now ≡ None = λ t. named t ∙ not_some _ (sym c.is_some.ensures ∙ c.if-is_some.false) in
    acts_none m _ _ (λ e. cc) (λ t. (free t, sym (c.has_parent.ensures t.disk) ∙ c.if-not-has_parent.true, refl))

pub returns-in_default-clause-acts : goal.returns-in_default-clause-acts
returns-in_default-clause-acts c =
    let m = c.args.self.now in
    acts_none m _ _ (λ e. cc) (λ t. inl refl)

pub returns-in-Ok-make-clause-acts : goal.returns-in-Ok-make-clause-acts
returns-in-Ok-make-clause-acts c =
    let m = c.args.self.now in
    let named : IsTold m → place_at (mem_state m) c.args.path.now ≡ c.place.result = λ t. ap (place_at (mem_state m)) (sym c.parts.ensures.same) ∙ sym (c.place.ensures t.disk) in
    let free : IsTold m → place_at (mem_state m) c.args.path.now ≡ None = λ t. named t ∙ not_some _ (sym c.is_some.ensures ∙ c.if-is_some.false) in
    let parented : IsTold m → has_parent (mem_state m) c.args.path.now ≡ true = λ t. sym (c.has_parent.ensures t.disk) ∙ c.if-not-has_parent.false in
    acts_made m c.make.new.self (MakeDir c.in-Ok.copy) _ _ c.in-Ok-make.ensures.made (λ e. cc)
    (λ t. (subst (λ p. Allowed (mem_state m) (MakeDir p)) (sym c.in-Ok.ensures) (free t, parented t), (free t, parented t, ap (λ p. Some (MakeDir p)) c.in-Ok.ensures)))

pub returns-in-Err-clause-acts : goal.returns-in-Err-clause-acts
returns-in-Err-clause-acts c =
    let m = c.args.self.now in
    acts_stays m c.make.new.self _ _ c.in-Err.ensures.kept (λ e. cc) (λ t. inl refl)
