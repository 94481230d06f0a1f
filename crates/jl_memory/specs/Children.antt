-- The names below a folder, as a table of what each path names tells them.
use Rattle.std.specs.Prelude.{◌≡◌, ◌≢◌, ℕ, List, [], ◌∷◌, ◌++◌, Option, Some, true, false, map, Contains}
use Rattle.jl_folder.specs.declared.moves.Place.{Place}
use Rattle.jl_folder.specs.declared.listing.Name.{Name}
use Rattle.jl_text.specs.Paths.{PathView}
use Rattle.jl_folder.specs.declared.listing.Listed.{Listed}
use Rattle.jl_folder.specs.declared.listing.Listed.TheVariants as listed
use Rattle.std.specs.List.{IsDistinct}
use Rattle.std.specs.Str.{bytes_eq}
use Rattle.jl_folder.specs.State.{State, is_folder, is_folder_place}
use Rattle.jl_folder.specs.Listing.{StandsRight}
use Rattle.jl_memory.specs.Tables.{found}

-- the path below this one, by a part that isn't empty: the topmost folder, whose one part is empty, stands below no path
pub record IsChild (child p : PathView) (part : List ℕ) : Type 0 where
  pub path : child ≡ p ++ part ∷ []
  pub named : part ≢ []

-- the table names this part below the path, as a folder or as a file
pub record StandsIn (places : List (PathView × Option Place)) (p : PathView) (name : Name) : Type 0 where
  pub place : Place
  pub found_is : found places (p ++ name.part ∷ []) ≡ Some place
  pub kind : is_folder_place place ≡ name.folder
  pub named : name.part ≢ []

-- the names are those that stand right in the folder, each once
pub record NamesHere (p : PathView) (names : List Name) (s : State) : Type 0 where
  pub folder : is_folder s p ≡ true
  pub each : (name : Name) → Contains names name → StandsRight s p name
  pub every : (name : Name) → StandsRight s p name → Contains names name
  pub once : IsDistinct bytes_eq (map (λ n. n.part) names)

-- what a listing of one state answers
abbrev pub ListsHere : PathView → Listed → State → Type 0
ListsHere p listed.NoDir s = is_folder s p ≡ false
ListsHere p (listed.Names names) s = NamesHere p names s
ListsHere p listed.Failed s = Unit {0}
ListsHere p listed.NoMemory s = Unit {0}
