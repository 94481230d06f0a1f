use Rattle.std.proofs.Common.{false, refl, sym, ◌∙◌, ap}
use Rattle.jl_folder.specs.State.{closed}
use Rattle.jl_folder.specs.OpenTable.{opens_of}
use Rattle.jl_folder.specs.Calls.{NoMove}
use Rattle.jl_memory.specs.Memory.{mem_state}
use Rattle.jl_memory.specs.Steps.{Acts}
use Rattle.jl_memory.proofs.ToldLemmas.{told_open, open_closed}
use Rattle.jl_memory.proofs.CallLemmas.{call_acted, turns_acted, plays_acted, acts_none, acts_opened}
use Rattle.jl_memory.proofs.calls.MemFolderFolder.close.Goals as goal

pub returns-clause-call : goal.returns-clause-call
returns-clause-call c =
    let a = c.args.self.now in
    let b = c.take_number-fails.new.self in
    let g = c.take_number-fails.ensures.begins in
    let act : Acts ⊥ NoMove b (record b { opens = c.close_at.new.opens }) = acts_opened b b (record b { opens = c.close_at.new.opens }) ⊥ NoMove (acts_none b ⊥ NoMove (λ e. e) (λ t. refl))
    (λ t. told_open b (record b { opens = c.close_at.new.opens }) t refl refl refl refl (λ k f is. open_closed (mem_state b) (opens_of b.opens.items) c.args.number.0 t.opens k f (ap (λ f. f k) (sym c.close_at.ensures) ∙ is)))
    refl in
    λ t. call_acted a b (record b { opens = c.close_at.new.opens }) false _ _ g t act

pub returns-clause-opens : goal.returns-clause-opens
returns-clause-opens c =
    let a = c.args.self.now in
    let b = c.take_number-fails.new.self in
    let g = c.take_number-fails.ensures.begins in
    c.close_at.ensures ∙ ap (λ files. closed (opens_of files) c.args.number.0) g.opens

pub returns-clause-frame : goal.returns-clause-frame
returns-clause-frame c =
    let a = c.args.self.now in
    let b = c.take_number-fails.new.self in
    let g = c.take_number-fails.ensures.begins in
    let act : Acts ⊥ NoMove b (record b { opens = c.close_at.new.opens }) = acts_opened b b (record b { opens = c.close_at.new.opens }) ⊥ NoMove (acts_none b ⊥ NoMove (λ e. e) (λ t. refl))
    (λ t. told_open b (record b { opens = c.close_at.new.opens }) t refl refl refl refl (λ k f is. open_closed (mem_state b) (opens_of b.opens.items) c.args.number.0 t.opens k f (ap (λ f. f k) (sym c.close_at.ensures) ∙ is)))
    refl in
    turns_acted a b (record b { opens = c.close_at.new.opens }) false _ _ g refl act

pub returns-clause-plays : goal.returns-clause-plays
returns-clause-plays c =
    let a = c.args.self.now in
    let b = c.take_number-fails.new.self in
    let g = c.take_number-fails.ensures.begins in
    let act : Acts ⊥ NoMove b (record b { opens = c.close_at.new.opens }) = acts_opened b b (record b { opens = c.close_at.new.opens }) ⊥ NoMove (acts_none b ⊥ NoMove (λ e. e) (λ t. refl))
    (λ t. told_open b (record b { opens = c.close_at.new.opens }) t refl refl refl refl (λ k f is. open_closed (mem_state b) (opens_of b.opens.items) c.args.number.0 t.opens k f (ap (λ f. f k) (sym c.close_at.ensures) ∙ is)))
    refl in
    plays_acted a b (record b { opens = c.close_at.new.opens }) false _ _ g act
