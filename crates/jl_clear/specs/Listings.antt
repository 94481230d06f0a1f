-- What reading the names of a folder tells.
use Rattle.std.specs.Prelude.{◌≡◌, false, List, Option, None, Some, Result, Ok, Err, All, IsTrue, ⊤}
use Rattle.jl_text.specs.Paths.{PathView, is_part}
use Rattle.jl_folder.specs.declared.listing.Name.{Name}
use Rattle.jl_folder.specs.State.{State, Trace, AtSome, is_folder}
use Rattle.jl_folder.specs.Views.{FolderView, FolderAnswers, state, moved}
use Rattle.jl_folder.specs.Listing.{ListsNames}
use Rattle.jl_folder.specs.Calls.{Waits}
use Rattle.jl_clear.specs.declared.stop.Stop.{Stop}
use Rattle.jl_clear.specs.declared.stop.Stop.TheVariants.{Fault}

-- the names of a folder that is there, or none where at some state it wasn't
abbrev pub ListsIn : PathView → Result (Option (List Name)) Stop → State → Trace → Type 0
ListsIn path (Ok (Some names)) s moves = ListsNames path names s moves
ListsIn path (Ok None) s moves = AtSome s moves (λ t. is_folder t path ≡ false)
ListsIn path (Err stop) s moves = ⊤

-- each part may be put behind a path
abbrev pub HaveParts : Result (Option (List Name)) Stop → Type 0
HaveParts (Ok (Some names)) = All (λ n. IsTrue (is_part n.part)) names
HaveParts (Ok None) = ⊤
HaveParts (Err stop) = ⊤

-- no own move; a fault rose exactly where it is answered;
-- and what a folder tells is of the call's states
pub record Lists (path : PathView) (result : Result (Option (List Name)) Stop)
    (old new : FolderView) : Type 0 where
  pub frame : FolderAnswers (result ≡ Err Fault) old new
  pub waits : old.told → Waits old new
  pub names : old.told → ListsIn path result (state old) (moved old new)
