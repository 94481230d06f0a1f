-- Which own moves making folders makes, and when it tells a fault.
use Rattle.std.proofs.Common.{◌≡◌, ◌⊎◌, inl, inr, ℕ, [], ◌++◌, take, drop, false, Option, None, Some, refl, sym, ap, ◌∙◌, append_assoc}
use Rattle.std.proofs.lemmas.List.{append-nil, take-append-drop}
use Rattle.jl_text.specs.Paths.{PathView, is_fixed}
use Rattle.jl_folder.specs.declared.moves.Move.{Move}
use Rattle.jl_folder.specs.declared.moves.Move.TheVariants.{MakeDir, Create, Append, Rename, Remove, RemoveDir}
use Rattle.jl_folder.specs.declared.folder.MadeDir.{MadeDir}
use Rattle.jl_folder.specs.declared.folder.MadeDir.TheVariants as made_dir
use Rattle.jl_folder.specs.State.{State}
use Rattle.jl_folder.specs.Calls.{MakesDir}
use Rattle.jl_store.specs.declared.folders.MadeFolders.TheVariants as made_folders
use Rattle.jl_store.specs.Doing.{IsMaking}
use Rattle.jl_store.specs.Storing.{folders_of}
use Rattle.jl_clear.proofs.RemovingLemmas.{maybe_is}

module _ (Kinds : Move → Type 0) (p : PathView) where
  pub make_kinds : Kinds (MakeDir p) → (r : MadeDir) (s : State) (own : Option Move) → MakesDir p r s own → (own ≡ None) ⊎ ((m : Move) × (own ≡ Some m) × Kinds m)
  make_kinds is made_dir.Exists s own gives = inl gives.1
  make_kinds is made_dir.NoParent s own gives = inl gives.2
  make_kinds is made_dir.Made s own gives = inr (MakeDir p, gives.2, is)
  make_kinds is made_dir.Failed s own gives = maybe_is Kinds (MakeDir p) own is gives
  make_kinds is made_dir.NoMemory s own gives = maybe_is Kinds (MakeDir p) own is gives

-- ---- faults

pub folders_fault : (r : MadeDir) → folders_of r ≡ made_folders.Fault → r ≡ made_dir.Failed
folders_fault made_dir.Made e = cc
folders_fault made_dir.Exists e = cc
folders_fault made_dir.NoParent e = cc
folders_fault made_dir.Failed e = refl
folders_fault made_dir.NoMemory e = cc

pub fault_folders : (r : MadeDir) → r ≡ made_dir.Failed → folders_of r ≡ made_folders.Fault
fault_folders r e = ap folders_of e

-- ---- kinds

pub makes_itself : (p : PathView) → is_fixed p ≡ false → IsMaking p (MakeDir p)
unfolding IsMaking
makes_itself p free = (free, ([], sym (append-nil p)))

-- what makes a first part of a path is on the way to it
pub making_prefix : (path : PathView) (n : ℕ) (m : Move) → IsMaking (take n path) m → IsMaking path m
unfolding IsMaking
making_prefix path n (MakeDir p) is =
    (is.0, (is.1.0 ++ drop n path, sym (take-append-drop n path) ∙ ap (λ (q : PathView). q ++ drop n path) is.1.1 ∙ append_assoc p is.1.0 (drop n path)))
making_prefix path n (Create p k) is = is
making_prefix path n (Append k bytes) is = is
making_prefix path n (Rename p q) is = is
making_prefix path n (Remove p) is = is
making_prefix path n (RemoveDir p) is = is
