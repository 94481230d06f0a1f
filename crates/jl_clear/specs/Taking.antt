-- What clearing takes away.
use Rattle.std.specs.Prelude.{◌≡◌, ◌⊎◌, ℕ, List, ◌∷◌, ◌++◌, None, true, false}
use Rattle.jl_text.specs.Paths.{PathView}
use Rattle.jl_folder.specs.declared.moves.Move.{Move}
use Rattle.jl_folder.specs.declared.moves.Move.TheVariants.{MakeDir, Create, Append, Rename, Remove, RemoveDir}
use Rattle.jl_folder.specs.State.{State, AtSome, place_at, bytes_at, is_file, is_folder}
use Rattle.jl_folder.specs.Views.{FolderView, state, moved}
use Rattle.jl_entry.specs.Names.{IsStoreName, IsStoreFolder, IsBelow}

-- ---- paths

-- in a folder, or in one that stands in it
abbrev pub IsInside : PathView → PathView → Type 0
IsInside folder p = (part : List ℕ) × (rest : PathView) × (p ≡ folder ++ part ∷ rest)

-- a name of the store or one of its folders
abbrev pub IsOfStore : (root : PathView) → PathView → Type 0
IsOfStore root p = IsStoreName root p ⊎ IsStoreFolder root p

-- ---- moves

-- removes a name of the store or one of its folders, of these paths
unfoldable pub IsTaking : (root : PathView) → (Of : PathView → Type 0) → Move → Type 0
IsTaking root Of (MakeDir p) = ⊥
IsTaking root Of (Create p n) = ⊥
IsTaking root Of (Append n bytes) = ⊥
IsTaking root Of (Rename p q) = ⊥
IsTaking root Of (Remove p) = IsStoreName root p × Of p
IsTaking root Of (RemoveDir p) = IsStoreFolder root p × Of p

-- ---- beside others

-- each name of the store among these paths named no file at some state of the call
abbrev pub WentAway : (root : PathView) → (Of : PathView → Type 0) → FolderView → FolderView → Type 0
WentAway root Of old new = (p : PathView) → Of p → IsStoreName root p → AtSome (state old) (moved old new) (λ s. is_file s p ≡ false)

-- ---- alone

-- nothing stands at or below the folder but files with names of the store, and its folders
abbrev pub HasOnly : (root : PathView) → PathView → State → Type 0
HasOnly root folder s =
    (p : PathView) → IsBelow folder p → (place_at s p ≡ None) ⊎ ((IsStoreName root p × (is_file s p ≡ true)) ⊎ (IsStoreFolder root p × (is_folder s p ≡ true)))

-- the path names what it named, with the bytes that it had
abbrev pub IsAsBefore : PathView → State → State → Type 0
IsAsBefore p before after = (place_at after p ≡ place_at before p) × (bytes_at after p ≡ bytes_at before p)

-- Of these paths each name of the store names no file, and each of its folders is gone in which nothing else stood.
-- What went is among these and of the store, and all else is as before.
pub record IsThinned (root : PathView) (Of : PathView → Type 0) (before after : State) : Type 0 where
  pub names : (p : PathView) → Of p → IsStoreName root p → is_file after p ≡ false
  pub folders : (p : PathView) → Of p → IsStoreFolder root p → HasOnly root p before → is_folder after p ≡ false
  pub each : (p : PathView) → IsAsBefore p before after ⊎ (Of p × IsOfStore root p × (place_at after p ≡ None))

-- all look-ups but those at these names are as before
abbrev pub IsBeside : (PathView → Type 0) → State → State → Type 0
IsBeside Uses before after = (p : PathView) → (Uses p → ⊥) → IsAsBefore p before after

-- these paths name nothing, and all others name what they named, with the bytes that it had
pub record IsTakenAway (Gone : PathView → Type 0) (before after : State) : Type 0 where
  pub gone : (p : PathView) → Gone p → place_at after p ≡ None
  pub beside : IsBeside Gone before after
