-- The items of a state, and those that were seen as others moved.
use Rattle.std.specs.Prelude.{◌≡◌, ◌≢◌, ◌⊎◌, ℕ, ◌-◌, ◌^◌, min, true, false, List, [], ◌∷◌, ◌++◌, Some, length, sum_by, Contains, IsTrue, ⊤}
use Rattle.std.specs.Option.{option_map_or}
use Rattle.jl_text.specs.Paths.{PathView, text_of}
use Rattle.jl_text.specs.Texts.{is_name}
use Rattle.jl_folder.specs.declared.listing.Name.{Name}
use Rattle.jl_folder.specs.Reading.{OpenedHas}
use Rattle.jl_folder.specs.State.{State, Trace, AtSome, AtEach, is_folder, is_file, bytes_at}
use Rattle.jl_folder.specs.Listing.{ListsNames}
use Rattle.jl_entry.specs.declared.names.EntryFile.TheVariants.{Access}
use Rattle.jl_entry.specs.Moments.{IsAccess}
use Rattle.jl_entry.specs.Names.{below, is_key, entry_part}
use Rattle.jl_evict.specs.declared.item.Item.{Item}

-- a module, a function and a key
abbrev pub IsEntryParts : PathView → Type 0
IsEntryParts parts = (m f k : List ℕ) × IsTrue (is_name m) × IsTrue (is_name f) × IsTrue (is_key k) × (parts ≡ m ∷ f ∷ k ∷ [])

-- the text MODULE/FUNC/KEY
abbrev pub IsItemPath : List ℕ → Type 0
IsItemPath path = (parts : PathView) × IsEntryParts parts × (path ≡ text_of parts)

-- a number stands still at the last value of 64 bits
abbrev pub held : ℕ → ℕ
held n = min n (2 ^ 64 - 1)

-- how many bytes a path's file has; none where it names no file
abbrev pub size_at : State → PathView → ℕ
size_at s p = option_map_or (λ (bytes : List ℕ). length bytes) (bytes_at s p) 0

-- the bytes of the files right in a folder
abbrev pub HasBytes : State → PathView → ℕ → Type 0
HasBytes s folder n = (names : List Name) × ListsNames folder names s [] × (n ≡ held (sum_by (λ name. size_at s (folder ++ name.part ∷ [])) names))

-- the moment in the file's text, or 0 where there is no such file or it has no such text
abbrev pub HasAccess : State → PathView → ℕ → Type 0
HasAccess s p n =
    ((bytes : List ℕ) × (bytes_at s p ≡ Some bytes) × IsAccess bytes n) ⊎ ((n ≡ 0) × ((bytes : List ℕ) (m : ℕ) → bytes_at s p ≡ Some bytes → IsAccess bytes m → ⊥))

-- the item of an entry's folder
pub record IsItem (root : PathView) (s : State) (parts : PathView) (item : Item) : Type 0 where
  pub stands : is_folder s (below root parts) ≡ true
  pub path : item.path ≡ text_of parts
  pub bytes : HasBytes s (below root parts) item.bytes
  pub access : HasAccess s (below root parts ++ entry_part Access ∷ []) item.access

-- no two items have one path
abbrev pub Once : List Item → Type 0
Once [] = ⊤
Once (x ∷ xs) = ((y : Item) → Contains xs y → y.path ≢ x.path) × Once xs

-- the items of those entries' folders below a root that are of this form, each once
pub record AreFound (root : PathView) (Of : PathView → Type 0) (s : State) (items : List Item) : Type 0 where
  pub each : (item : Item) → Contains items item → (parts : PathView) × IsEntryParts parts × Of parts × IsItem root s parts item
  pub every : (parts : PathView) → IsEntryParts parts → Of parts → is_folder s (below root parts) ≡ true → (item : Item) × Contains items item × IsItem root s parts item
  pub once : Once items

-- the items of a state: the entries' folders below the root, each once
abbrev pub AreItems : (root : PathView) → State → List Item → Type 0
AreItems root s items = AreFound root (λ parts. ⊤) s items

-- ---- as others moved

-- each name's file in the folder had such a size at some state
abbrev pub HadSizes : PathView → List Name → List ℕ → State → Trace → Type 0
HadSizes folder [] [] s moves = ⊤
HadSizes folder [] (n ∷ ns) s moves = ⊥
HadSizes folder (name ∷ names) [] s moves = ⊥
HadSizes folder (name ∷ names) (n ∷ ns) s moves = AtSome s moves (λ t. size_at t (folder ++ name.part ∷ []) ≡ n) × HadSizes folder names ns s moves

-- the sum of such sizes
abbrev pub HadBytes : PathView → List Name → ℕ → State → Trace → Type 0
HadBytes folder names n s moves = (sizes : List ℕ) × HadSizes folder names sizes s moves × (n ≡ held (sum_by (λ k. k) sizes))

-- the path named a node, and at that state or a later one the node had these bytes
abbrev pub HadText : PathView → List ℕ → State → Trace → Type 0
HadText path bytes s moves = OpenedHas path (λ held. held ≡ bytes) s moves

-- the moment that bytes are the text of, or 0
abbrev pub IsAccessOf : List ℕ → ℕ → Type 0
IsAccessOf bytes n = IsAccess bytes n ⊎ ((n ≡ 0) × ((m : ℕ) → IsAccess bytes m → ⊥))

-- the moment in the text that the file had, or 0 where there was no such file or it had no such text
abbrev pub HadAccess : PathView → ℕ → State → Trace → Type 0
HadAccess path n s moves =
    ((bytes : List ℕ) × HadText path bytes s moves × IsAccessOf bytes n) ⊎ (AtSome s moves (λ t. is_file t path ≡ false) × (n ≡ 0))

-- The entry's folder stood, and the item tells what was seen of it:
-- the sizes of the files that were listed, each as it was at some state, and the moment of the last access.
pub record IsSeen (root parts : PathView) (item : Item) (s : State) (moves : Trace) : Type 0 where
  pub stood : AtSome s moves (λ t. is_folder t (below root parts) ≡ true)
  pub path : item.path ≡ text_of parts
  pub names : List Name
  pub listed : ListsNames (below root parts) names s moves
  pub bytes : HadBytes (below root parts) names item.bytes s moves
  pub access : HadAccess (below root parts ++ entry_part Access ∷ []) item.access s moves

-- of the entries' folders below a root that are of this form each item's stood, and each that stood throughout has an item; no two items have one path
pub record AreSeen (root : PathView) (Of : PathView → Type 0) (items : List Item) (s : State) (moves : Trace) : Type 0 where
  pub each : (item : Item) → Contains items item → (parts : PathView) × IsEntryParts parts × Of parts × IsSeen root parts item s moves
  pub every : (parts : PathView) → IsEntryParts parts → Of parts → AtEach s moves (λ t. is_folder t (below root parts) ≡ true) → (item : Item) × Contains items item × (item.path ≡ text_of parts)
  pub once : Once items

-- the same of all entries' folders
abbrev pub WereItems : (root : PathView) → List Item → State → Trace → Type 0
WereItems root items s moves = AreSeen root (λ parts. ⊤) items s moves
