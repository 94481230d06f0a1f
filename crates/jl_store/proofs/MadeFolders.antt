-- What making folders leaves where no other moved.
use Rattle.std.proofs.Common.{◌≡◌, ⊎_elim, ℕ, List, [], Some, sym, subst}
use Rattle.jl_text.specs.Paths.{PathView}
use Rattle.jl_folder.specs.declared.moves.Place.TheVariants.{Folder}
use Rattle.jl_folder.specs.declared.moves.Move.{Move}
use Rattle.jl_folder.specs.declared.moves.Move.TheVariants.{MakeDir, Create, Append, Rename, Remove, RemoveDir}
use Rattle.jl_folder.specs.State.{State, place_at}
use Rattle.jl_folder.specs.Views.{FolderView, state, moved}
use Rattle.jl_rely.specs.Steps.{IsLone}
use Rattle.jl_rely.specs.Touches.{TouchedByOther}
use Rattle.jl_protocol.specs.Proper.{IsProper}
use Rattle.jl_protocol.specs.Tidy.{IsTidy}
use Rattle.jl_entry.specs.Names.{IsFunctionFolder}
use Rattle.jl_rely.specs.Claims.{Moves}
use Rattle.jl_store.specs.declared.folders.MadeFolders.TheVariants as made_folders
use Rattle.jl_store.specs.Doing.{IsPrefix, IsMaking}
use Rattle.jl_store.specs.Storing.{FoldersOr}
use Rattle.jl_store.specs.Alone.{HasFolders}
use Rattle.jl_store.proofs.LoneMoves.{IsWithin, lone_untouched, part_beside, part_tidy}
use Rattle.jl_store.proofs.StorePaths.{making_puts}
use Rattle.jl_store.proofs.TidyFolders.{prefix_folder}

making_within : (path : PathView) → IsWithin (IsMaking path) (λ p. IsPrefix p path)
unfolding IsMaking
making_within path (MakeDir p) is = (tt, λ q touch. subst (λ (r : PathView). IsPrefix r path) (sym touch) is.1)
making_within path (Create p n) is = absurd is
making_within path (Append n bytes) is = absurd is
making_within path (Rename p q) is = absurd is
making_within path (Remove p) is = absurd is
making_within path (RemoveDir p) is = absurd is

pub making_proper : (root path : PathView) → IsFunctionFolder root path → (token : List ℕ) (s : State) (m : Move) → IsMaking path m → IsProper root token s m
making_proper root path fun token s m is = (making_puts root path fun [] [] token s m is).0

pub has_folders : (root path : PathView) (old new : FolderView) → IsFunctionFolder root path → IsTidy root (state old) → Moves (IsMaking path) old new → IsLone old.token (moved old new) → FoldersOr made_folders.Made path old new → HasFolders path (state old) (state new)
has_folders root path old new fun tidy moves lone made = record {
  folders = λ p front.
      prefix_folder (state new) (part_tidy (IsMaking path) old new moves lone root (making_proper root path fun old.token) tidy).state path p front
      (⊎_elim (λ (is : place_at (state new) path ≡ Some Folder). is) (λ (t : TouchedByOther old.token (λ q. IsPrefix q path) (moved old new)). absurd (lone_untouched old.token (λ q. IsPrefix q path) (moved old new) lone t)) made);
  beside = part_beside (IsMaking path) old new moves lone (λ p. IsPrefix p path) (making_within path);
}
