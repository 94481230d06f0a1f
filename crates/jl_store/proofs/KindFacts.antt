-- Which names own moves of a kind touch, and which kinds include which.
use Rattle.std.proofs.Common.{◌≢◌, ℕ, List, refl, sym, ◌∙◌}
use Rattle.jl_text.specs.Paths.{PathView}
use Rattle.jl_folder.specs.declared.moves.Move.{Move}
use Rattle.jl_folder.specs.declared.moves.Move.TheVariants.{MakeDir, Create, Append, Rename, Remove, RemoveDir}
use Rattle.jl_folder.specs.State.{State}
use Rattle.jl_folder.specs.Views.{FolderView}
use Rattle.jl_rely.specs.Claims.{Called}
use Rattle.jl_rely.proofs.Touched.{IsApart}
use Rattle.jl_rely.proofs.Composed.{called_kinds}
use Rattle.jl_protocol.specs.Proper.{IsProper}
use Rattle.jl_store.specs.Kinds.{IsPiece, IsAppend, IsOnName, IsFor, RenamesThis, PutsThis}

pub append_apart : (x : PathView) → IsApart IsAppend x
unfolding IsAppend
append_apart x (MakeDir p) is touch = is
append_apart x (Create p n) is touch = is
append_apart x (Append n bytes) is touch = touch
append_apart x (Rename p q) is touch = is
append_apart x (Remove p) is touch = is
append_apart x (RemoveDir p) is touch = is

pub on_name_apart : (name x : PathView) → name ≢ x → IsApart (IsOnName name) x
unfolding IsOnName
on_name_apart name x ne (MakeDir p) is touch = is
on_name_apart name x ne (Create p n) is touch = ne (sym is ∙ sym touch)
on_name_apart name x ne (Append n bytes) is touch = touch
on_name_apart name x ne (Rename p q) is touch = is
on_name_apart name x ne (Remove p) is touch = ne (sym is ∙ sym touch)
on_name_apart name x ne (RemoveDir p) is touch = is

pub append_on_name : (name : PathView) (m : Move) → IsAppend m → IsOnName name m
unfolding IsAppend IsOnName
append_on_name name (MakeDir p) is = is
append_on_name name (Create p n) is = absurd is
append_on_name name (Append n bytes) is = is
append_on_name name (Rename p q) is = is
append_on_name name (Remove p) is = absurd is
append_on_name name (RemoveDir p) is = is

pub on_name_for : (last temp : PathView) (m : Move) → IsOnName temp m → IsFor last temp m
unfolding IsOnName IsFor
on_name_for last temp (MakeDir p) is = is
on_name_for last temp (Create p n) is = is
on_name_for last temp (Append n bytes) is = is
on_name_for last temp (Rename p q) is = absurd is
on_name_for last temp (Remove p) is = is
on_name_for last temp (RemoveDir p) is = is

renames_none : (last : PathView) (bytes : List ℕ) (temp : PathView) (s : State) (m : Move) → IsOnName temp m → RenamesThis last bytes s m
unfolding IsOnName RenamesThis
renames_none last bytes temp s (MakeDir p) is = tt
renames_none last bytes temp s (Create p n) is = tt
renames_none last bytes temp s (Append n more) is = tt
renames_none last bytes temp s (Rename p q) is = absurd is
renames_none last bytes temp s (Remove p) is = tt
renames_none last bytes temp s (RemoveDir p) is = tt

-- a call that keeps to the temporary name is one of publishing
pub as_publishing : (root last temp : PathView) (bytes : List ℕ) (Kinds : Move → Type 0) (Pre Post : State → Type 0) (old new : FolderView) → ((m : Move) → Kinds m → IsOnName temp m) → Called (IsProper root) (IsProper root) Kinds Pre Post old new → Called (IsProper root) (PutsThis root last bytes) (IsFor last temp) Pre Post old new
as_publishing root last temp bytes Kinds Pre Post old new on call =
    called_kinds (IsProper root) (IsProper root) (PutsThis root last bytes) Kinds (IsFor last temp) Pre Post old new
    (λ s m is proper. (proper, renames_none last bytes temp s m (on m is))) (λ m is. on_name_for last temp m (on m is)) call

pub on_create : (name : PathView) (n : ℕ) → IsOnName name (Create name n)
unfolding IsOnName
on_create name n = refl

pub on_remove : (name : PathView) → IsOnName name (Remove name)
unfolding IsOnName
on_remove name = refl

pub is_append : (n : ℕ) (bytes : List ℕ) → IsPiece bytes → IsAppend (Append n bytes)
unfolding IsAppend
is_append n bytes short = short

pub for_rename : (last temp : PathView) → IsFor last temp (Rename temp last)
unfolding IsFor
for_rename last temp = (refl, refl)
