-- What each part of a walk through a cache tells, which makes no move.
use Rattle.std.specs.Prelude.{◌≡◌, ℕ, List, [], ◌∷◌, ◌++◌, map, Contains, IsTrue, Result, Ok, Err, ⊤}
use Rattle.std.specs.List.{IsDistinct}
use Rattle.std.specs.Str.{bytes_eq}
use Rattle.jl_text.specs.Paths.{PathView, text_of}
use Rattle.jl_text.specs.Texts.{is_name}
use Rattle.jl_folder.specs.declared.listing.Name.{Name}
use Rattle.jl_folder.specs.declared.folder.SizeOf.{SizeOf}
use Rattle.jl_folder.specs.declared.folder.SizeOf.TheVariants as size_of
use Rattle.jl_folder.specs.State.{State, Trace, AtSome, IsState}
use Rattle.jl_folder.specs.Views.{FolderView, FolderAnswers, state, moved}
use Rattle.jl_entry.specs.declared.names.EntryFile.TheVariants.{Access}
use Rattle.jl_entry.specs.Names.{IsBelow, below, entry_part}
use Rattle.jl_rely.specs.Claims.{Moves, Silent}
use Rattle.jl_clear.specs.declared.levels.Level.{Level}
use Rattle.jl_clear.specs.declared.levels.Level.TheVariants as level
use Rattle.jl_clear.specs.declared.stop.Stop.{Stop}
use Rattle.jl_clear.specs.declared.stop.Stop.TheVariants as stop
use Rattle.jl_evict.specs.declared.item.Item.{Item}
use Rattle.jl_evict.specs.declared.measure.Measure.{Measure}
use Rattle.jl_evict.specs.declared.measure.Measure.TheVariants as measure
use Rattle.jl_evict.specs.declared.walk.Place.{Place}
use Rattle.jl_evict.specs.Items.{IsEntryParts, IsItemPath, size_at, HadBytes, HadAccess, AreSeen}

-- ---- numbers

-- a path that names no file has no bytes
abbrev pub measure_of : SizeOf → Measure
measure_of (size_of.Size n) = measure.Number n
measure_of size_of.NoFile = measure.Number 0
measure_of size_of.Failed = measure.Fault
measure_of size_of.NoMemory = measure.NoMemory

-- the path had this size at some state
abbrev pub HadSize : PathView → ℕ → State → Trace → Type 0
HadSize path n s moves = AtSome s moves (λ t. size_at t path ≡ n)

-- no own move; a fault rose exactly where it is answered; and a number that is answered has this of the call's states
pub record Measures (Says : ℕ → State → Trace → Type 0) (answer : Measure) (old new : FolderView) : Type 0 where
  pub frame : FolderAnswers (answer ≡ measure.Fault) old new
  pub moves : old.told → Moves Silent old new
  pub says : old.told → (n : ℕ) → answer ≡ measure.Number n → Says n (state old) (moved old new)

-- ---- the walk

-- the root, a module and a function, below the root
abbrev pub IsRootParts : PathView → Type 0
IsRootParts parts = parts ≡ []

abbrev pub IsModuleParts : PathView → Type 0
IsModuleParts parts = (m : List ℕ) × IsTrue (is_name m) × (parts ≡ m ∷ [])

abbrev pub IsFunctionParts : PathView → Type 0
IsFunctionParts parts = (m f : List ℕ) × IsTrue (is_name m) × IsTrue (is_name f) × (parts ≡ m ∷ f ∷ [])

-- the parts of a folder of this level
abbrev pub LevelParts : Level → PathView → Type 0
LevelParts level.Module parts = IsModuleParts parts
LevelParts level.Function parts = IsFunctionParts parts
LevelParts level.Entry parts = IsEntryParts parts

-- and of the folder in which such stand
abbrev pub HoldsParts : Level → PathView → Type 0
HoldsParts level.Module parts = IsRootParts parts
HoldsParts level.Function parts = IsModuleParts parts
HoldsParts level.Entry parts = IsFunctionParts parts

-- an item with this path, these bytes and this access is the last now, or there was no memory
abbrev pub Pushes : Result ⊤ Stop → Place → (bytes access : ℕ) → List Item → List Item → Type 0
Pushes (Ok done) place bytes access before after = (item : Item) × (after ≡ before ++ item ∷ []) × (item.path ≡ text_of place.name) × (item.bytes ≡ bytes) × (item.access ≡ access)
Pushes (Err stop.Fault) place bytes access before after = ⊥
Pushes (Err stop.NoMemory) place bytes access before after = after ≡ before

-- the place is this folder below the root
pub record IsAt (root : PathView) (Form : PathView → Type 0) (place : Place) : Type 0 where
  pub folder : place.folder ≡ below root place.name
  pub form : Form place.name

-- below one of these names of the place
abbrev pub Under : PathView → List Name → PathView → Type 0
Under name names parts = (n : Name) × Contains names n × IsBelow (name ++ n.part ∷ []) parts

-- none comes twice
abbrev pub AreDistinct : List Name → Type 0
AreDistinct names = IsDistinct bytes_eq (map (λ n. n.part) names)

-- what an item tells where its bytes were found out before
abbrev pub HasSized : Place → ℕ → Item → State → Trace → Type 0
HasSized place bytes item s moves = (item.bytes ≡ bytes) × HadAccess (place.folder ++ entry_part Access ∷ []) item.access s moves

-- and where its files were listed before
abbrev pub HasListed : Place → List Name → Item → State → Trace → Type 0
HasListed place names item s moves = HadBytes place.folder names item.bytes s moves × HadAccess (place.folder ++ entry_part Access ∷ []) item.access s moves

-- no own move, and a fault rose exactly where it is answered; the place's item alone was added, if any, and it was where it is done, and then tells this
pub record AddsOne (place : Place) (Says : Item → State → Trace → Type 0) (answer : Result ⊤ Stop) (before after : List Item) (old new : FolderView) : Type 0 where
  pub added : List Item
  pub are : after ≡ before ++ added
  pub paths : (item : Item) → Contains added item → item.path ≡ text_of place.name
  pub frame : FolderAnswers (answer ≡ Err stop.Fault) old new
  pub moves : old.told → Moves Silent old new
  pub one : old.told → answer ≡ Ok tt → (item : Item) × (added ≡ item ∷ []) × Says item (state old) (moved old new)

-- no own move, and a fault rose exactly where it is answered; items were added, each with a path of an item, and where it is done they are those that were seen among the entries of this form
pub record Adds (root : PathView) (Pre : Type 0) (Of : PathView → Type 0) (answer : Result ⊤ Stop) (before after : List Item) (old new : FolderView) : Type 0 where
  pub added : List Item
  pub are : after ≡ before ++ added
  pub paths : (item : Item) → Contains added item → IsItemPath item.path
  pub frame : FolderAnswers (answer ≡ Err stop.Fault) old new
  pub moves : old.told → Moves Silent old new
  pub found : old.told → answer ≡ Ok tt → IsState (state old) → Pre → AreSeen root Of added (state old) (moved old new)
