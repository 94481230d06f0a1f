-- What each part of a clearing does, and what it leaves where no other moved.
use Rattle.std.specs.Prelude.{◌≡◌, ◌⊎◌, ℕ, false, List, [], ◌∷◌, ◌++◌, None, Contains}
use Rattle.jl_text.specs.Paths.{PathView, is_fixed}
use Rattle.jl_folder.specs.declared.listing.Name.{Name}
use Rattle.jl_folder.specs.State.{State, IsState, place_at, node_at, is_folder}
use Rattle.jl_folder.specs.Views.{FolderView, FolderAnswers, state, moved}
use Rattle.jl_folder.specs.Listing.{StandsRight}
use Rattle.jl_entry.specs.Names.{IsStoreFolder, IsBelow, IsKeyName}
use Rattle.jl_rely.specs.Steps.{IsLone}
use Rattle.jl_rely.specs.Claims.{Moves, Anywhere}
use Rattle.jl_clear.specs.declared.removing.Clear.{Clear}
use Rattle.jl_clear.specs.declared.removing.Clear.TheVariants.{Cleared, Fault}
use Rattle.jl_clear.specs.Taking.{IsTaking, IsInside, IsOfStore, HasOnly, WentAway}

-- ---- paths

-- a folder of the store that can be taken away
abbrev pub IsPlace : PathView → PathView → Type 0
IsPlace root folder = IsStoreFolder root folder × (is_fixed folder ≡ false)

-- no path
abbrev pub NoPath : PathView → Type 0
NoPath p = ⊥

-- what stands in a folder at this part, if it is of that form
abbrev pub ClearsPart : (Form : List ℕ → Type 0) → PathView → List ℕ → PathView → Type 0
ClearsPart Form folder part p = Form part × IsBelow (folder ++ part ∷ []) p

-- what stands in a folder at a name of that form
abbrev pub Reached : (Form : List ℕ → Type 0) → PathView → PathView → Type 0
Reached Form folder p = (part : List ℕ) × ClearsPart Form folder part p

-- what stands in a function's folder at the name of an entry's folder
abbrev pub IsOfEntries : PathView → PathView → Type 0
IsOfEntries function p = Reached IsKeyName function p

-- what stands in a folder at one of these names, of those of that form
abbrev pub Handled : (Form : List ℕ → Type 0) → PathView → List Name → PathView → Type 0
Handled Form folder names p = (name : Name) × Contains names name × ClearsPart Form folder name.part p

-- it stands in the folder, behind a part of that form
abbrev pub IsBehind : (Form : List ℕ → Type 0) → PathView → PathView → Type 0
IsBehind Form folder p = (part : List ℕ) × (rest : PathView) × Form part × (p ≡ folder ++ part ∷ rest)

-- ---- states

-- nothing stands in the folder
abbrev pub IsEmptied : PathView → State → Type 0
IsEmptied folder s = (p : PathView) → IsInside folder p → place_at s p ≡ None

-- each name in the folder is one of these
abbrev pub HasAll : PathView → List Name → State → Type 0
HasAll folder names s = (name : Name) → StandsRight s folder name → Contains names name

-- each path names what it named, but that some of the store's among those that may go name nothing; and nodes are as before
pub record Thinned (root : PathView) (May : PathView → Type 0) (before after : State) : Type 0 where
  pub each : (p : PathView) → (place_at after p ≡ place_at before p) ⊎ (May p × IsOfStore root p × (place_at after p ≡ None))
  pub nodes : (n : ℕ) → node_at after n ≡ node_at before n

-- ---- parts of a clearing

-- Own moves alone that take away names of the store among those that may go; a fault rose exactly where it is answered.
-- Where all is cleared, each name of the store among `Went` was away at some state.
-- Where no other moved besides, from a state in which Pre held, the folders among `Gone` are gone in which nothing else stood.
pub record Clears (root : PathView) (Pre : State → Type 0) (May Went Gone : PathView → Type 0) (answer : Clear) (old new : FolderView) : Type 0 where
  pub frame : FolderAnswers (answer ≡ Fault) old new
  pub moves : old.told → Moves (IsTaking root May) old new
  pub went : old.told → answer ≡ Cleared → IsState (state old) → WentAway root Went old new
  pub alone : old.told → answer ≡ Cleared → IsState (state old) → IsLone old.token (moved old new) → Pre (state old) → (p : PathView) → Gone p → IsStoreFolder root p → HasOnly root p (state old) → is_folder (state new) p ≡ false

-- the same of all that stands at or below a path
abbrev pub ClearsBelow : (root path : PathView) → Clear → FolderView → FolderView → Type 0
ClearsBelow root path answer old new =
    Clears root Anywhere (IsBelow path) (IsBelow path) (IsBelow path) answer old new
