use Rattle.jl_text.specs.Paths.{PathView}
use Rattle.jl_folder.specs.Views.{FolderAnswers}
use Rattle.jl_rely.specs.Claims.{Moves}
use Rattle.jl_store.specs.Doing.{IsMaking}
use Rattle.jl_store.proofs.FolderCauses.{IsThere}
use Rattle.jl_store.proofs.folders.make_folders.Given as goal

abbrev pub invariant-loop-i : goal.invariant-loop-i
invariant-loop-i g l =
    let old = g.F.Folder.view l.fn.folder in
    let here = g.F.Folder.view l.folder in
    record {
      frame : FolderAnswers (⊥) old here;
      moves : old.told → Moves (IsMaking l.path) old here;
      there : old.told → (root : PathView) → IsThere root l.path l.i old here;
    }
