use Rattle.std.proofs.Common.{subst, sym}
use Rattle.jl_rely.specs.Claims.{Moves}
use Rattle.jl_rely.proofs.Moving.{moves_none}
use Rattle.jl_tracker.specs.declared.line.Kind.TheVariants as kind
use Rattle.jl_tracker.specs.Taking.{TakesResource}
use Rattle.jl_tracker.proofs.MoveLemmas.{removal_moves}
use Rattle.jl_tracker.proofs.removing.remove.Goals as goal

pub returns-in-File-clause-moves : goal.returns-in-File-clause-moves
returns-in-File-clause-moves g c = λ t.
    let view = g.F.Folder.view in
    let a = view c.args.folder.now in
    let b = view c.remove_named_file.new.folder in
    subst (λ k. Moves (TakesResource k c.args.name.now) a b) (sym c.in-File.is) (removal_moves kind.File c.args.name.now c.remove_named_file.result a b (c.remove_named_file.ensures.tries t))

pub returns-in-Folder-clause-moves : goal.returns-in-Folder-clause-moves
returns-in-Folder-clause-moves g c = λ t.
    let view = g.F.Folder.view in
    let a = view c.args.folder.now in
    let b = view c.remove_named_folder.new.folder in
    subst (λ k. Moves (TakesResource k c.args.name.now) a b) (sym c.in-Folder.is) (removal_moves kind.Folder c.args.name.now c.remove_named_folder.result a b (c.remove_named_folder.ensures.tries t))

pub returns-in-Semlock-clause-moves : goal.returns-in-Semlock-clause-moves
returns-in-Semlock-clause-moves g c = λ t. moves_none (TakesResource c.args.kind c.args.name.now) (g.F.Folder.view c.args.folder.now)
