-- What the command `clear` takes away, and how it ends.
use Rattle.std.specs.Prelude.{ℕ, List, [], ◌∷◌, Option, Some, None, ⊤}
use Rattle.hex.specs.Hex.{encode_lower}
use Rattle.jl_text.specs.Counts.{Rose}
use Rattle.jl_text.specs.Paths.{PathView}
use Rattle.jl_value.specs.declared.key.Key.{Key}
use Rattle.jl_folder.specs.Views.{FolderView, state, moved}
use Rattle.jl_rely.specs.Steps.{OwnMoves}
use Rattle.jl_protocol.specs.Whole.{CodeAnswers}
use Rattle.jl_protocol.specs.Proper.{LawfulThroughout}
use Rattle.jl_entry.specs.Names.{IsBelow, below, root_of}
use Rattle.jl_clear.specs.Cleared.{ClearsPaths}
use Rattle.jl_clear.specs.Taking.{IsTaking, IsInside}
use Rattle.jl_clear.specs.declared.removing.Clear.{Clear}
use Rattle.jl_clear.specs.declared.removing.Clear.TheVariants as clear_answer
use Rattle.jl_cmd.specs.declared.ended.Ended.{Ended}
use Rattle.jl_cmd.specs.declared.ended.Ended.TheVariants.{Done, NoMemory, FolderFault}

-- the paths that go: all in the root, or the folder of a module, of a function or of an entry with all that stands in it
abbrev pub IsCleared : (location : PathView) → Option (List ℕ) → Option (List ℕ) → Option Key → PathView → Type 0
IsCleared location None f k = IsInside (root_of location)
IsCleared location (Some m) None k = IsBelow (below (root_of location) (m ∷ []))
IsCleared location (Some m) (Some f) None = IsBelow (below (root_of location) (m ∷ f ∷ []))
IsCleared location (Some m) (Some f) (Some k) = IsBelow (below (root_of location) (m ∷ f ∷ encode_lower k.0 ∷ []))

-- it is done, or the folder's faults rose, or memory was wanting
abbrev pub EndsClearing : Ended → (old new : FolderView) → Type 0
EndsClearing Done old new = ⊤
EndsClearing FolderFault old new = Rose old.faults new.faults
EndsClearing NoMemory old new = ⊤
EndsClearing _ old new = ⊥

-- the run's own moves take away names of the store and its folders, of the paths that go alone, and are lawful throughout
pub record ClearsLawfully (location : PathView) (m f : Option (List ℕ)) (key : Option Key) (answer : CodeAnswers) (old new : FolderView) : Type 0 where
  pub takes : OwnMoves old.token (IsTaking (root_of location) (IsCleared location m f key)) (moved old new)
  pub lawful : LawfulThroughout (root_of location) answer old.token (state old) (moved old new)

-- what a clearing answered where the run ended so
abbrev pub clear_of_ended : Ended → Clear
clear_of_ended Done = clear_answer.Cleared
clear_of_ended FolderFault = clear_answer.Fault
clear_of_ended _ = clear_answer.NoMemory

-- These paths were cleared. Where that is done, each name of the store among them was away at some state, whatever others did; and where no other
-- moved none of them is left, from a tidy state nothing of them, and all else.
abbrev pub ClearsAsked : (location : PathView) → (m f : Option (List ℕ)) → (key : Option Key) → Ended → (old new : FolderView) → Type 0
ClearsAsked location m f key e old new = ClearsPaths (root_of location) (IsCleared location m f key) (clear_of_ended e) old new

-- what a clearing did
pub record ClearDid (location : PathView) (m f : Option (List ℕ)) (key : Option Key) (old new : FolderView) (e : Ended) : Type 0 where
  pub ends : EndsClearing e old new
  pub clears : old.told → ClearsAsked location m f key e old new
