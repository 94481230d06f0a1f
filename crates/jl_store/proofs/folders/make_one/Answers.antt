use Rattle.std.proofs.Common.{◌∙◌, sym, subst}
use Rattle.jl_folder.proofs.Frames.{answers_as}
use Rattle.jl_rely.proofs.Moving.{moves_call}
use Rattle.jl_store.specs.Doing.{IsMaking}
use Rattle.jl_store.proofs.StoringLemmas.{make_kinds, makes_itself, folders_fault, fault_folders}
use Rattle.jl_store.specs.Storing.{StepOr}
use Rattle.jl_store.specs.declared.folders.MadeFolders.{MadeFolders}
use Rattle.jl_store.proofs.FolderCauses.{one_made}
use Rattle.jl_store.proofs.folders.make_one.Goals as goal

pub returns-clause-moves : goal.returns-clause-moves
returns-clause-moves g c = λ t.
    let path = c.args.path.now in
    moves_call (IsMaking path) (g.F.Folder.view c.args.folder.now) (g.F.Folder.view c.make_dir-made.new.self) _ (λ s own gives. make_kinds (IsMaking path) path (makes_itself path c.requires) c.make_dir-made.result s own gives)
    c.make_dir-made.ensures.frame.token (c.make_dir-made.ensures.call t)

pub returns-clause-frame : goal.returns-clause-frame
returns-clause-frame g c =
    answers_as (g.F.Folder.view c.args.folder.now) (g.F.Folder.view c.make_dir-made.new.self) c.make_dir-made.ensures.frame
    (λ is. folders_fault c.make_dir-made.result (sym c.as_folders.ensures ∙ is)) (λ failed. c.as_folders.ensures ∙ fault_folders c.make_dir-made.result failed)

pub returns-clause-step : goal.returns-clause-step
returns-clause-step g c = λ t root store tidy all.
    let old = g.F.Folder.view c.args.folder.now in
    let new = g.F.Folder.view c.make_dir-made.new.self in
    subst (λ (r : MadeFolders). StepOr r c.args.path.now old new) (sym c.as_folders.ensures)
    (one_made root c.args.path.now c.requires store old new c.make_dir-made.result (c.make_dir-made.ensures.call t) tidy all)
