-- The names below the root of a cache: its folders, its final files and their temporary names.
use Rattle.std.specs.Prelude.{◌≡◌, ◌⊎◌, ℕ, Bool, false, ◌&&◌, ◌||◌, nat_eq, nat_le, List, [], ◌∷◌, ◌++◌, length, IsTrue, cond, codes, unwrap_or, ⊤}
use Rattle.std.specs.List.{list_all}
use Rattle.jl_text.specs.Paths.{PathView, is_fixed, parent, last_part}
use Rattle.jl_text.specs.Texts.{is_name, is_token}
use Rattle.jl_entry.specs.declared.names.EntryFile.{EntryFile}
use Rattle.jl_entry.specs.declared.names.EntryFile.TheVariants.{Output, Metadata, Access}

-- ---- parts

-- `0` to `9` and `a` to `f`
abbrev pub is_hex_byte : ℕ → Bool
is_hex_byte b = (nat_le 48 b && nat_le b 57) || (nat_le 97 b && nat_le b 102)

-- 32 lower-case hexadecimal digits
unfoldable pub is_key : List ℕ → Bool
is_key text = list_all is_hex_byte text && nat_eq (length text) 32

-- `joblib`
unfoldable pub root_part : List ℕ
root_part = codes "joblib"

-- `func_code.py`
unfoldable pub code_part : List ℕ
code_part = codes "func_code.py"

-- `output.json`, `metadata.json`, `last_access`
unfoldable pub entry_part : EntryFile → List ℕ
entry_part Output = codes "output.json"
entry_part Metadata = codes "metadata.json"
entry_part Access = codes "last_access"

-- `.tmp-` and a token
unfoldable pub suffix : List ℕ → List ℕ
suffix token = codes ".tmp-" ++ token

-- the suffix of a temporary name
abbrev pub IsSuffix : List ℕ → Type 0
IsSuffix rest = (token : List ℕ) × IsTrue (is_token token) × (rest ≡ suffix token)

-- this name, or a temporary one of it
abbrev pub IsNamed : List ℕ → List ℕ → Type 0
IsNamed name part = (part ≡ name) ⊎ ((token : List ℕ) × IsTrue (is_token token) × (part ≡ name ++ suffix token))

-- a file of an entry, under its final or a temporary name
abbrev pub IsEntryName : List ℕ → Type 0
IsEntryName part = (file : EntryFile) × IsNamed (entry_part file) part

-- the file of a function's code, under its final or a temporary name
abbrev pub IsCodeName : List ℕ → Type 0
IsCodeName part = IsNamed code_part part

-- the folder of an entry
abbrev pub IsKeyName : List ℕ → Type 0
IsKeyName part = IsTrue (is_key part)

-- the folder of a module or of a function
abbrev pub IsNameOf : List ℕ → Type 0
IsNameOf part = IsTrue (is_name part)

-- ---- paths

-- the root of the cache of a location
unfoldable pub root_of : PathView → PathView
root_of location = location ++ root_part ∷ []

-- what stands below a root at these parts
abbrev pub below : PathView → PathView → PathView
below root parts = root ++ parts

-- a final file: the code of a function, or a file of an entry
pub data Final : Type 0 where
  code_of : (module' name : List ℕ) → Final
  entry_of : (file : EntryFile) (module' name key : List ℕ) → Final

-- the module and the function are names, and the key is a key
abbrev pub IsFormed : Final → Type 0
IsFormed (code_of m f) = IsTrue (is_name m) × IsTrue (is_name f)
IsFormed (entry_of w m f k) = IsTrue (is_name m) × IsTrue (is_name f) × IsTrue (is_key k)

-- where a final file stands below its root
abbrev pub final_parts : Final → PathView
final_parts (code_of m f) = m ∷ f ∷ code_part ∷ []
final_parts (entry_of w m f k) = m ∷ f ∷ k ∷ entry_part w ∷ []

-- where its temporary name of a token stands
abbrev pub temp_parts : Final → List ℕ → PathView
temp_parts (code_of m f) token = m ∷ f ∷ (code_part ++ suffix token) ∷ []
temp_parts (entry_of w m f k) token = m ∷ f ∷ k ∷ (entry_part w ++ suffix token) ∷ []

-- the path is the final name of this file
pub record IsFinal (root : PathView) (x : Final) (p : PathView) : Type 0 where
  pub formed : IsFormed x
  pub is : p ≡ below root (final_parts x)

-- the path is the temporary name of this file and token
pub record IsTemp (root : PathView) (x : Final) (token : List ℕ) (p : PathView) : Type 0 where
  pub formed : IsFormed x
  pub of_token : IsTrue (is_token token)
  pub is : p ≡ below root (temp_parts x token)

-- a final or temporary name of the store
abbrev pub IsStoreName : PathView → PathView → Type 0
IsStoreName root p = ((x : Final) × IsFinal root x p) ⊎ ((x : Final) × (token : List ℕ) × IsTemp root x token p)

-- ---- folders

-- the folder of a module
abbrev pub IsModuleFolder : (root : PathView) → PathView → Type 0
IsModuleFolder root folder = (m : List ℕ) × IsTrue (is_name m) × (folder ≡ below root (m ∷ []))

-- the folder of a function
abbrev pub IsFunctionFolder : (root : PathView) → PathView → Type 0
IsFunctionFolder root folder = (m f : List ℕ) × IsTrue (is_name m) × IsTrue (is_name f) × (folder ≡ below root (m ∷ f ∷ []))

-- the folder of an entry
abbrev pub IsEntryFolder : (root : PathView) → PathView → Type 0
IsEntryFolder root folder = (m f k : List ℕ) × IsTrue (is_name m) × IsTrue (is_name f) × IsTrue (is_key k) × (folder ≡ below root (m ∷ f ∷ k ∷ []))

-- a path that begins at the topmost folder
abbrev pub is_rooted : PathView → Bool
is_rooted [] = false
is_rooted (p ∷ ps) = nat_eq (length p) 0

-- at or below the root
unfoldable pub IsBelow : PathView → PathView → Type 0
IsBelow root p = (parts : PathView) × (p ≡ below root parts)

-- the root or on the way to it, from the topmost folder or from the current one as the root is
unfoldable pub IsOnWay : PathView → PathView → Type 0
IsOnWay root p = (parts : PathView) × (root ≡ below p parts) × (is_rooted p ≡ is_rooted root)

-- the parts of the root, of a module's folder, of a function's and of an entry's
abbrev pub IsFolderParts : PathView → Type 0
IsFolderParts [] = ⊤
IsFolderParts (m ∷ []) = IsTrue (is_name m)
IsFolderParts (m ∷ f ∷ []) = IsTrue (is_name m) × IsTrue (is_name f)
IsFolderParts (m ∷ f ∷ k ∷ []) = IsTrue (is_name m) × IsTrue (is_name f) × IsTrue (is_key k)
IsFolderParts (m ∷ f ∷ k ∷ x ∷ rest) = ⊥

-- a folder of the store, or one on the way to its root
unfoldable pub IsStoreFolder : PathView → PathView → Type 0
IsStoreFolder root p = IsOnWay root p ⊎ ((parts : PathView) × IsFolderParts parts × (p ≡ below root parts))

-- no path that is at or below the root or on the way to it
abbrev pub IsOutside : PathView → PathView → Type 0
IsOutside root p = (IsBelow root p → ⊥) × (IsOnWay root p → ⊥)

-- ---- the temporary name of any path

-- the folder of a path; the current folder and the topmost are their own
abbrev pub folder_of : PathView → PathView
folder_of p = cond (is_fixed p) p (parent p)

-- the path whose last part has the suffix
abbrev pub temp_of : PathView → List ℕ → PathView
temp_of p token = folder_of p ++ (unwrap_or (last_part p) [] ++ suffix token) ∷ []
