-- What a listing answers, while others move.
use Rattle.std.specs.Prelude.{◌≡◌, ◌≢◌, List, [], ◌∷◌, ◌++◌, true, false, map, Some, Contains, All, IsTrue}
use Rattle.std.specs.List.{IsDistinct}
use Rattle.std.specs.Str.{bytes_eq}
use Rattle.jl_folder.specs.declared.moves.Place.{Place}
use Rattle.jl_folder.specs.declared.listing.Name.{Name}
use Rattle.jl_folder.specs.declared.listing.Listed.{Listed}
use Rattle.jl_folder.specs.declared.listing.Listed.TheVariants as listed
use Rattle.jl_text.specs.Paths.{PathView, is_part}
use Rattle.jl_folder.specs.State.{State, Trace, AtSome, AtEach, place_at, is_folder, is_folder_place}

-- the name stands right in the folder; the topmost folder, whose one part is empty, stands in none
pub record StandsRight (s : State) (p : PathView) (name : Name) : Type 0 where
  pub place : Place
  pub place_is : place_at s (p ++ name.part ∷ []) ≡ Some place
  pub kind : is_folder_place place ≡ name.folder
  pub named : name.part ≢ []

-- the names of a folder, as others move: each stood there at some state, what stood there throughout is one of them, and none comes twice
pub record ListsNames (p : PathView) (names : List Name) (s : State) (moves : Trace) : Type 0 where
  pub folder : AtSome s moves (λ s. is_folder s p ≡ true)
  pub each : (name : Name) → Contains names name → AtSome s moves (λ s. StandsRight s p name)
  pub every : (name : Name) → AtEach s moves (λ s. StandsRight s p name) → Contains names name
  pub once : IsDistinct bytes_eq (map (λ n. n.part) names)

-- what `list` answers
abbrev pub ListsFolder : PathView → Listed → State → Trace → Type 0
ListsFolder p listed.NoDir s moves = AtSome s moves (λ s. is_folder s p ≡ false)
ListsFolder p (listed.Names names) s moves = ListsNames p names s moves
ListsFolder p listed.Failed s moves = Unit {0}
ListsFolder p listed.NoMemory s moves = Unit {0}

-- each part that is answered may be put behind a path; told by every folder
abbrev pub ListsParts : Listed → Type 0
ListsParts (listed.Names names) = All (λ n. IsTrue (is_part n.part)) names
ListsParts listed.NoDir = Unit {0}
ListsParts listed.Failed = Unit {0}
ListsParts listed.NoMemory = Unit {0}
