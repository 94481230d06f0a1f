use Rattle.std.proofs.Common.{◌≡◌, ◌-◌, ◌≤◌, Some, length, vec_len}
use Rattle.jl_folder.specs.declared.moves.OpenFile.{OpenFile}
use Rattle.jl_folder.specs.State.{node_at}
use Rattle.jl_folder.specs.Views.{FolderAnswers, state}
use Rattle.jl_folder.specs.Calls.{Waits}
use Rattle.jl_folder.proofs.NodesKept.{Begins}
use Rattle.jl_folder.proofs.read.read_pieces.Given as goal

abbrev pub invariant-pieces : goal.invariant-pieces
invariant-pieces g l =
    let old = g.F.Folder.view l.initial.folder in
    let new = g.F.Folder.view l.folder in
    record {
      frame : FolderAnswers (⊥) old new;
      waits : old.told → Waits old new;
      so_far : old.told → (file : OpenFile) → old.opens l.number.0 ≡ Some file → Begins (node_at (state new) file.node) l.bytes.items;
      within : length l.bytes.items ≤ l.most;
    }

abbrev pub decreases-pieces : goal.decreases-pieces
decreases-pieces g l = l.most - vec_len l.bytes
