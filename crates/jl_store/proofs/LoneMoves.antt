-- What own moves leave during which no other moved.
use Rattle.std.proofs.Common.{◌≡◌, inl, inr, ℕ, List, [], ◌∷◌, Option, None, Some, true, false, true≢false, refl, sym, ap, subst}
use Rattle.std.specs.Option.{option_map_or}
use Rattle.jl_text.specs.Paths.{PathView}
use Rattle.jl_folder.specs.declared.moves.Place.{Place}
use Rattle.jl_folder.specs.declared.moves.Place.TheVariants.{Folder, File}
use Rattle.jl_folder.specs.declared.moves.Move.{Move}
use Rattle.jl_folder.specs.declared.moves.Move.TheVariants.{MakeDir, Create, Append, Rename, Remove, RemoveDir}
use Rattle.jl_folder.specs.State.{State, Trace, place_at, node_at, is_folder, is_folder_place, after, run}
use Rattle.jl_folder.specs.Views.{FolderView, state, moved}
use Rattle.jl_rely.specs.Steps.{AllSteps, OwnMoves, IsLone}
use Rattle.jl_rely.specs.Touches.{Touches, TouchedByOther}
use Rattle.jl_rely.specs.Claims.{Moves}
use Rattle.jl_rely.proofs.Since.{state_after}
use Rattle.jl_protocol.specs.Proper.{IsProper}
use Rattle.jl_protocol.specs.Tidy.{IsTidy}
use Rattle.jl_protocol.proofs.Kills.{tidy_at_end}
use Rattle.jl_clear.proofs.Removals.{lone_all}
use Rattle.jl_clear.specs.Taking.{IsBeside}
use Rattle.jl_store.proofs.Drafts.{untouched, bytes_stay, beside_same, beside_then}

-- ---- steps

-- no other touched anything
pub lone_untouched : (token : List ℕ) (Uses : PathView → Type 0) (xs : Trace) → IsLone token xs → TouchedByOther token Uses xs → ⊥
unfolding IsLone TouchedByOther
lone_untouched token Uses [] lone t = t
lone_untouched token Uses (e ∷ es) lone (inl here) = here.0 lone.0
lone_untouched token Uses (e ∷ es) lone (inr there) = lone_untouched token Uses es lone.1 there

-- ---- look-ups beside

-- makes or removes a folder, or removes a name: no node is touched
abbrev pub IsQuiet : Move → Type 0
IsQuiet (MakeDir p) = Unit {0}
IsQuiet (Create p n) = ⊥
IsQuiet (Append n bytes) = ⊥
IsQuiet (Rename p q) = ⊥
IsQuiet (Remove p) = Unit {0}
IsQuiet (RemoveDir p) = Unit {0}

quiet_nodes : (s : State) (t : List ℕ) (m : Move) → IsQuiet m → (n : ℕ) → node_at (after s (t, m)) n ≡ node_at s n
quiet_nodes s t (MakeDir p) quiet n = refl
quiet_nodes s t (Create p k) quiet n = absurd quiet
quiet_nodes s t (Append k bytes) quiet n = absurd quiet
quiet_nodes s t (Rename p q) quiet n = absurd quiet
quiet_nodes s t (Remove p) quiet n = refl
quiet_nodes s t (RemoveDir p) quiet n = refl

-- moves of these kinds are quiet, and touch no names but these
abbrev pub IsWithin : (Kinds : Move → Type 0) (Uses : PathView → Type 0) → Type 0
IsWithin Kinds Uses = (m : Move) → Kinds m → IsQuiet m × ((p : PathView) → Touches m p → Uses p)

pub own_beside : (token : List ℕ) (Kinds : Move → Type 0) (Uses : PathView → Type 0) → IsWithin Kinds Uses → (s : State) (xs : Trace) → IsLone token xs → OwnMoves token Kinds xs → IsBeside Uses s (run s xs)
unfolding IsLone OwnMoves
own_beside token Kinds Uses within s [] lone own = beside_same Uses s s refl
own_beside token Kinds Uses within s (e ∷ es) lone own =
    let is = within e.1 (own.0 lone.0) in
    beside_then Uses s (after s e) (run (after s e) es)
    (λ p apart. let place = untouched s e p (λ touch. apart (is.1 p touch)) in (place, bytes_stay s (after s e) p place (λ n named. quiet_nodes s e.0 e.1 is.0 n)))
    (own_beside token Kinds Uses within (after s e) es lone.1 own.1)

-- ---- places

folder_of : (o : Option Place) → option_map_or is_folder_place o false ≡ true → o ≡ Some Folder
folder_of None e = absurd (true≢false (sym e))
folder_of (Some k) e = elim k as (λ (j : Place). is_folder_place j ≡ true → Some j ≡ Some Folder) [ Folder ↦ λ h. refl | File n ↦ λ h. absurd (true≢false (sym h)) ] e

pub folder_at : (s : State) (p : PathView) → is_folder s p ≡ true → place_at s p ≡ Some Folder
folder_at s p e = folder_of (place_at s p) e

pub folder_there : (s : State) (p : PathView) → place_at s p ≡ Some Folder → is_folder s p ≡ true
folder_there s p e = ap (λ o. option_map_or is_folder_place o false) e

-- ---- parts of a call

module _ (Kinds : Move → Type 0) (old new : FolderView) (moves : Moves Kinds old new) (lone : IsLone old.token (moved old new)) where
  pub part_beside : (Uses : PathView → Type 0) → IsWithin Kinds Uses → IsBeside Uses (state old) (state new)
  part_beside Uses within = subst (IsBeside Uses (state old)) (sym (state_after old new moves.went)) (own_beside old.token Kinds Uses within (state old) (moved old new) lone moves.own)

  pub part_proper : (root : PathView) → ((s : State) (m : Move) → Kinds m → IsProper root old.token s m) → AllSteps (IsProper root) (state old) (moved old new)
  part_proper root proper = lone_all (IsProper root) old.token Kinds proper (state old) (moved old new) moves.own lone

  pub part_tidy : (root : PathView) → ((s : State) (m : Move) → Kinds m → IsProper root old.token s m) → IsTidy root (state old) → IsTidy root (state new)
  part_tidy root proper tidy = subst (IsTidy root) (sym (state_after old new moves.went)) (tidy_at_end root (state old) (moved old new) moves.went.lawful (part_proper root proper) tidy)
