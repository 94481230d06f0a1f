use Rattle.std.proofs.Common.{take}
use Rattle.jl_folder.specs.Views.{FolderKeeps}
use Rattle.jl_tracker.specs.Stages.{folder_point}
use Rattle.jl_tracker.specs.Removing.{TriedNames}
use Rattle.jl_tracker.proofs.removing.try_names.Given as goal

abbrev pub invariant-names : goal.invariant-names
invariant-names g l =
    let view = g.F.Folder.view in
    record {
      frame : FolderKeeps (view l.initial.folder) (view l.folder);
      tried : (view l.initial.folder).told → TriedNames l.path (take l.name-index l.names) (folder_point (view l.initial.folder)) (folder_point (view l.folder));
    }
