-- Which own move a removal makes, and when it tells a fault.
use Rattle.std.proofs.Common.{◌≡◌, ◌⊎◌, inl, inr, Option, None, Some, refl}
use Rattle.jl_text.specs.Paths.{PathView}
use Rattle.jl_folder.specs.declared.moves.Move.{Move}
use Rattle.jl_folder.specs.declared.moves.Move.TheVariants.{Remove, RemoveDir}
use Rattle.jl_folder.specs.declared.folder.Removed.{Removed}
use Rattle.jl_folder.specs.declared.folder.Removed.TheVariants as removed
use Rattle.jl_folder.specs.declared.folder.RemovedDir.{RemovedDir}
use Rattle.jl_folder.specs.declared.folder.RemovedDir.TheVariants as removed_dir
use Rattle.jl_folder.specs.State.{State}
use Rattle.jl_folder.specs.Calls.{RemovesFile, RemovesFolder, Maybe}
use Rattle.jl_clear.specs.declared.removing.Clear.TheVariants as clear
use Rattle.jl_clear.specs.Removing.{clear_of, clear_of_folder}

-- this move or none
pub maybe_is : (Kinds : Move → Type 0) (m : Move) (own : Option Move) → Kinds m → Maybe m own → (own ≡ None) ⊎ ((n : Move) × (own ≡ Some n) × Kinds n)
maybe_is Kinds m own is (inl none) = inl none
maybe_is Kinds m own is (inr just) = inr (m, just, is)

module _ (Kinds : Move → Type 0) (p : PathView) where
  pub remove_kinds : Kinds (Remove p) → (r : Removed) (s : State) (own : Option Move) → RemovesFile p r s own → (own ≡ None) ⊎ ((m : Move) × (own ≡ Some m) × Kinds m)
  remove_kinds is removed.NoFile s own gives = inl gives.1
  remove_kinds is removed.Done s own gives = inr (Remove p, gives.1, is)
  remove_kinds is removed.Failed s own gives = maybe_is Kinds (Remove p) own is gives
  remove_kinds is removed.NoMemory s own gives = maybe_is Kinds (Remove p) own is gives

  pub remove_dir_kinds : Kinds (RemoveDir p) → (r : RemovedDir) (s : State) (own : Option Move) → RemovesFolder p r s own → (own ≡ None) ⊎ ((m : Move) × (own ≡ Some m) × Kinds m)
  remove_dir_kinds is removed_dir.NoDir s own gives = inl gives.1
  remove_dir_kinds is removed_dir.NotEmpty s own gives = inl gives.2
  remove_dir_kinds is removed_dir.Done s own gives = inr (RemoveDir p, gives.3, is)
  remove_dir_kinds is removed_dir.Failed s own gives = maybe_is Kinds (RemoveDir p) own is gives
  remove_dir_kinds is removed_dir.NoMemory s own gives = maybe_is Kinds (RemoveDir p) own is gives

-- ---- faults

pub clear_fault : (r : Removed) → clear_of r ≡ clear.Fault → r ≡ removed.Failed
clear_fault removed.Done e = cc
clear_fault removed.NoFile e = cc
clear_fault removed.Failed e = refl
clear_fault removed.NoMemory e = cc

pub clear_folder_fault : (r : RemovedDir) → clear_of_folder r ≡ clear.Fault → r ≡ removed_dir.Failed
clear_folder_fault removed_dir.Done e = cc
clear_folder_fault removed_dir.NoDir e = cc
clear_folder_fault removed_dir.NotEmpty e = cc
clear_folder_fault removed_dir.Failed e = refl
clear_folder_fault removed_dir.NoMemory e = cc
