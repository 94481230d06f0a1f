-- What parts of a call do, whatever others do meanwhile.
use Rattle.jl_folder.specs.declared.moves.Move.{Move}
use Rattle.jl_folder.specs.Views.{FolderView, FolderKeeps}
use Rattle.jl_rely.specs.Claims.{Moves}

-- own moves of these kinds alone, where the folder tells; the same numbers are open, and the count of faults never falls
pub record Does (Kinds : Move → Type 0) (old new : FolderView) : Type 0 where
  pub frame : FolderKeeps old new
  pub moves : old.told → Moves Kinds old new
