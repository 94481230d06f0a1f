-- What stands in which folder of a cache, by levels.
use Rattle.std.proofs.Common.{◌≢◌, ◌≤◌, ℕ, List, [], ◌∷◌, ◌++◌, sym, subst, length}
use Rattle.jl_text.specs.Paths.{PathView}
use Rattle.jl_entry.specs.Names.{IsModuleFolder}
use Rattle.jl_clear.specs.declared.levels.Level.{Level}
use Rattle.jl_clear.specs.declared.levels.Level.TheVariants as level
use Rattle.jl_clear.specs.declared.levels.Kind.{Kind}
use Rattle.jl_clear.specs.declared.levels.Kind.TheVariants as kind
use Rattle.jl_clear.specs.Taking.{IsInside, IsOfStore}
use Rattle.jl_clear.specs.Clearing.{IsPlace, IsBehind}
use Rattle.jl_clear.specs.Levels.{IsLevelName, IsLevel, IsInnerName, IsKindName, IsKind, HoldsKind}
use Rattle.jl_clear.proofs.Folders.{name_there, key_there, code_there, entry_there, function_there, module_in, function_in, entry_in, code_name, entry_name}
use Rattle.jl_clear.proofs.Folders.{module_place, function_place, entry_place, module_place_long, function_place_long, entry_place_long, module_inner, function_inner, entry_inner}

-- ---- names are not empty

pub level_there : (l : Level) (part : List ℕ) → IsLevelName l part → part ≢ []
level_there level.Module part is = name_there part is
level_there level.Function part is = name_there part is
level_there level.Entry part is = key_there part is

pub kind_there : (k : Kind) (part : List ℕ) → IsKindName k part → part ≢ []
kind_there (kind.Folder l) part is = level_there l part is
kind_there kind.Code part is = code_there part is
kind_there kind.EntryFile part is = entry_there part is

pub inner_there : (l : Level) (part : List ℕ) → IsInnerName l part → part ≢ []
inner_there level.Module part is = name_there part is
inner_there level.Function part is = function_there part is
inner_there level.Entry part is = entry_there part is

-- ---- folders

module _ (root folder : PathView) where
  -- a folder of a level has a parent
  pub level_place : (l : Level) → IsLevel l root folder → IsPlace root folder
  level_place level.Module of = module_place root folder of
  level_place level.Function of = function_place root folder of
  level_place level.Entry of = entry_place root folder of

  pub level_long : (l : Level) → IsLevel l root folder → 1 ≤ length folder
  level_long level.Module of = module_place_long root folder of
  level_long level.Function of = function_place_long root folder of
  level_long level.Entry of = entry_place_long root folder of

  -- what of the store stands in it is behind one of its names
  pub level_inner : (l : Level) (p : PathView) → IsLevel l root folder → IsInside folder p → IsOfStore root p
      → IsBehind (IsInnerName l) folder p
  level_inner level.Module p of inside store = module_inner root folder p of inside store
  level_inner level.Function p of inside store = function_inner root folder p of inside store
  level_inner level.Entry p of inside store = entry_inner root folder p of inside store

  -- what stands in a folder at such a name is of that kind
  pub kind_at : (k : Kind) (part : List ℕ) → HoldsKind k root folder → IsKindName k part
      → IsKind k root (folder ++ part ∷ [])
  kind_at (kind.Folder level.Module) part here is =
      subst (λ (h : PathView). IsModuleFolder root (h ++ part ∷ [])) (sym here) (module_in root part is)
  kind_at (kind.Folder level.Function) part of is = function_in root folder part of is
  kind_at (kind.Folder level.Entry) part of is = entry_in root folder part of is
  kind_at kind.Code part of is = code_name root folder part of is
  kind_at kind.EntryFile part of is = entry_name root folder part of is
