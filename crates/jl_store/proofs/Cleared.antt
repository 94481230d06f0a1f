-- What clearing the entries of a function does and leaves, as checking its code tells of it.
use Rattle.std.proofs.Common.{◌≡◌, [], ◌∷◌, ◌++◌}
use Rattle.jl_text.specs.Paths.{PathView}
use Rattle.jl_folder.specs.declared.moves.Move.{Move}
use Rattle.jl_folder.specs.declared.moves.Move.TheVariants.{MakeDir, Create, Append, Rename, Remove, RemoveDir}
use Rattle.jl_folder.specs.State.{State}
use Rattle.jl_folder.specs.Views.{FolderView, state, moved}
use Rattle.jl_entry.specs.Names.{IsBelow, IsFunctionFolder}
use Rattle.jl_rely.specs.Steps.{IsLone}
use Rattle.jl_rely.specs.Claims.{Anywhere, Moves}
use Rattle.jl_rely.proofs.Moving.{moves_as}
use Rattle.jl_protocol.specs.Tidy.{IsTidy}
use Rattle.jl_clear.specs.Taking.{IsTaking, IsTakenAway}
use Rattle.jl_clear.specs.Clearing.{IsOfEntries, Clears}
use Rattle.jl_clear.specs.Cleared.{ClearsPaths}
use Rattle.jl_clear.specs.declared.removing.Clear.{Clear}
use Rattle.jl_clear.specs.declared.removing.Clear.TheVariants.{Cleared}
use Rattle.jl_clear.proofs.Paths.{below_then, entries_below}
use Rattle.jl_clear.proofs.Folders.{entry_in, entry_file, entry_itself}
use Rattle.jl_clear.proofs.Claims.{claims}
use Rattle.jl_store.specs.Doing.{IsEmptying, IsClearing}
use Rattle.jl_store.specs.Alone.{HasNoEntries}

-- what is taken away of a function's entries are their files and their folders
taking_clears : (root function : PathView) → IsFunctionFolder root function → (m : Move) → IsTaking root (IsOfEntries function) m → IsClearing function m
unfolding IsTaking IsEmptying
taking_clears root function fun (MakeDir p) is = absurd is
taking_clears root function fun (Create p n) is = absurd is
taking_clears root function fun (Append n bytes) is = absurd is
taking_clears root function fun (Rename p q) is = absurd is
taking_clears root function fun (Remove p) is = let key = is.1.0 in (key, is.1.1.0, entry_file root (function ++ key ∷ []) p (entry_in root function key fun is.1.1.0) is.1.1.1 is.0)
taking_clears root function fun (RemoveDir p) is = let key = is.1.0 in (key, is.1.1.0, entry_itself root (function ++ key ∷ []) p (entry_in root function key fun is.1.1.0) is.1.1.1 is.0)

no_entries : (function : PathView) (s t : State) → IsTakenAway (IsOfEntries function) s t → HasNoEntries function s t
unfolding IsBelow
no_entries function s t away = record {
  empty = λ p is. away.gone p (is.0, (is.1, is.2));
  beside = λ p apart. away.beside p (λ of. apart (of.0, of.1.0, of.1.1));
}

-- they stand below the root
in_root : (root function : PathView) → IsFunctionFolder root function → (p : PathView) → IsOfEntries function p → IsBelow root p
unfolding IsBelow
in_root root function fun p of = below_then root function p ((fun.0 ∷ fun.1 ∷ []), fun.4) (entries_below function p of)

module _ (root function : PathView) (fun : IsFunctionFolder root function) (answer : Clear) (old new : FolderView) (a : Clears root Anywhere (IsOfEntries function) (IsOfEntries function) (IsOfEntries function) answer old new) where
  pub cleared_moves : old.told → Moves (IsClearing function) old new
  cleared_moves t = moves_as (IsTaking root (IsOfEntries function)) (IsClearing function) (taking_clears root function fun) old new (a.moves t)

  claims_here : old.told → IsTidy root (state old) → ClearsPaths root (IsOfEntries function) answer old new
  claims_here t tidy = claims root (IsOfEntries function) answer old new a t tidy.state (in_root root function fun)

  pub cleared_alone : answer ≡ Cleared → old.told → IsLone old.token (moved old new) → IsTidy root (state old) → HasNoEntries function (state old) (state new)
  cleared_alone done t lone tidy = no_entries function (state old) (state new) ((claims_here t tidy).tidy done lone tidy)
