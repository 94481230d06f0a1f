use Rattle.std.proofs.Common.{◌≡◌, false, Some, sym, ◌∙◌, ap, refl}
use Rattle.jl_folder.specs.declared.moves.Place.TheVariants.{File}
use Rattle.jl_folder.specs.declared.moves.OpenFile.{OpenFile}
use Rattle.jl_folder.specs.State.{place_at, is_file}
use Rattle.jl_folder.specs.OpenTable.{opens_of}
use Rattle.jl_folder.proofs.Opens.{put_here}
use Rattle.jl_memory.specs.Memory.{mem_state, IsTold}
use Rattle.jl_memory.proofs.ToldLemmas.{told_open, open_put, sound_named}
use Rattle.jl_memory.proofs.CallLemmas.{acts_none, acts_opened}
use Rattle.jl_memory.proofs.memory.MemFolder.open_named.Goals as goal

pub returns-in_default-clause-acts : goal.returns-in_default-clause-acts
returns-in_default-clause-acts c =
    let m = c.args.self.now in
    acts_none m _ _ (λ e. cc) (λ t. (ap (is_file (mem_state m)) (sym c.parts.ensures.same) ∙ c.in_default.ensures.none t.disk, refl))

pub returns-in-Ok-clause-acts : goal.returns-in-Ok-clause-acts
returns-in-Ok-clause-acts c =
    let m = c.args.self.now in
    let number = c.in-Ok.number.0 in
    let file : OpenFile = record { node = c.in-Some.node; made = false } in
    let named : IsTold m → place_at (mem_state m) c.args.path.now ≡ Some (File c.in-Some.node) = λ t. ap (place_at (mem_state m)) (sym c.parts.ensures.same) ∙ c.in-Some.ensures.some t.disk in
    acts_opened m m (record m { opens = c.open_next.new.opens }) _ _
    (acts_none m _ _ (λ e. cc) (λ t. record { node = c.in-Some.node; named = named t; move_is = refl; is_open = ap (λ f. f number) c.in-Ok.ensures.ok.1 ∙ put_here (opens_of m.opens.items) number file }))
    (λ t. told_open m (record m { opens = c.open_next.new.opens }) t refl refl refl refl (λ k f is. open_put (mem_state m) (opens_of m.opens.items) number file
    (sound_named m.disk t.disk c.args.path.now c.in-Some.node (named t)) t.opens k f (ap (λ f. f k) (sym c.in-Ok.ensures.ok.1) ∙ is)))
    refl

pub returns-in-Err-clause-acts : goal.returns-in-Err-clause-acts
returns-in-Err-clause-acts c =
    let m = c.args.self.now in
    acts_opened m m (record m { opens = c.open_next.new.opens }) _ _ (acts_none m _ _ (λ e. cc) (λ t. refl))
    (λ t. told_open m (record m { opens = c.open_next.new.opens }) t refl refl refl refl (λ k f is. t.opens k f (ap (λ files. opens_of files k) (sym c.in-Err.ensures.err) ∙ is)))
    refl
