-- What of a cache stands in which of its folders.
use Rattle.std.specs.Prelude.{◌≡◌, ◌⊎◌, ℕ, List}
use Rattle.jl_text.specs.Paths.{PathView}
use Rattle.jl_entry.specs.Names.{IsNameOf, IsKeyName, IsCodeName, IsEntryName, IsStoreName, IsModuleFolder, IsFunctionFolder, IsEntryFolder}
use Rattle.jl_clear.specs.declared.levels.Level.{Level}
use Rattle.jl_clear.specs.declared.levels.Level.TheVariants as level
use Rattle.jl_clear.specs.declared.levels.Kind.{Kind}
use Rattle.jl_clear.specs.declared.levels.Kind.TheVariants as kind

-- ---- folders

-- the name of a folder of this level
abbrev pub IsLevelName : Level → List ℕ → Type 0
IsLevelName level.Module part = IsNameOf part
IsLevelName level.Function part = IsNameOf part
IsLevelName level.Entry part = IsKeyName part

-- a folder of this level
abbrev pub IsLevel : Level → (root : PathView) → PathView → Type 0
IsLevel level.Module root folder = IsModuleFolder root folder
IsLevel level.Function root folder = IsFunctionFolder root folder
IsLevel level.Entry root folder = IsEntryFolder root folder

-- the folder in which folders of this level stand
abbrev pub HoldsLevel : Level → (root : PathView) → PathView → Type 0
HoldsLevel level.Module root folder = folder ≡ root
HoldsLevel level.Function root folder = IsModuleFolder root folder
HoldsLevel level.Entry root folder = IsFunctionFolder root folder

-- the name of an entry's folder or of the code's file
abbrev pub IsFunctionPart : List ℕ → Type 0
IsFunctionPart part = IsKeyName part ⊎ IsCodeName part

-- the names that are of the store in a folder of this level
abbrev pub IsInnerName : Level → List ℕ → Type 0
IsInnerName level.Module part = IsNameOf part
IsInnerName level.Function part = IsFunctionPart part
IsInnerName level.Entry part = IsEntryName part

-- ---- folders and files

-- the name of a folder of a level, or of such a file
abbrev pub IsKindName : Kind → List ℕ → Type 0
IsKindName (kind.Folder level) part = IsLevelName level part
IsKindName kind.Code part = IsCodeName part
IsKindName kind.EntryFile part = IsEntryName part

-- the path of one
abbrev pub IsKind : Kind → (root : PathView) → PathView → Type 0
IsKind (kind.Folder level) root path = IsLevel level root path
IsKind kind.Code root path = IsStoreName root path
IsKind kind.EntryFile root path = IsStoreName root path

-- the folder in which one stands
abbrev pub HoldsKind : Kind → (root : PathView) → PathView → Type 0
HoldsKind (kind.Folder level) root folder = HoldsLevel level root folder
HoldsKind kind.Code root folder = IsFunctionFolder root folder
HoldsKind kind.EntryFile root folder = IsEntryFolder root folder
