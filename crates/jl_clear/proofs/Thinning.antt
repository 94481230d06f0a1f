-- States from which paths were taken away.
use Rattle.std.proofs.Common.{◌≡◌, ◌⊎◌, inl, inr, ⊎_elim, ℕ, List, [], ◌∷◌, ◌++◌, true, false, None, Some, Option, refl, sym, ap, subst, ◌∙◌, option_map}
use Rattle.std.specs.Option.{option_map_or}
use Rattle.jl_text.specs.Paths.{PathView}
use Rattle.jl_folder.specs.declared.moves.Place.{Place}
use Rattle.jl_folder.specs.declared.moves.Place.TheVariants.{Folder, File}
use Rattle.jl_folder.specs.declared.moves.Move.{Move}
use Rattle.jl_folder.specs.declared.moves.Move.TheVariants.{MakeDir, Create, Append, Rename, Remove, RemoveDir}
use Rattle.jl_folder.specs.State.{State, Trace, AtSome, place_at, node_at, bytes_of, is_file, is_folder, is_file_place, is_folder_place, after, run}
use Rattle.jl_folder.specs.Views.{FolderView, state, moved}
use Rattle.jl_folder.proofs.Looks.{node_at-after}
use Rattle.jl_rely.specs.Steps.{OwnMoves, IsLone}
use Rattle.jl_rely.specs.Claims.{Moves}
use Rattle.jl_rely.proofs.Effects.{removed_here, unmade_here}
use Rattle.jl_rely.proofs.Since.{state_after}
use Rattle.jl_rely.proofs.Causes.{folder_as, file_as}
use Rattle.jl_rely.proofs.Touched.{step_or_touch}
use Rattle.jl_entry.specs.Names.{IsStoreName, IsStoreFolder}
use Rattle.jl_clear.specs.Taking.{IsTaking, IsOfStore, IsAsBefore, HasOnly}
use Rattle.jl_clear.specs.Clearing.{Thinned}

-- ---- what stays

module _ (root : PathView) (May : PathView → Type 0) (s t : State) (th : Thinned root May s t) where
  -- what named nothing names nothing
  pub none_stays : (p : PathView) → place_at s p ≡ None → place_at t p ≡ None
  none_stays p none = ⊎_elim (λ (same : place_at t p ≡ place_at s p). same ∙ none) (λ (g : May p × IsOfStore root p × (place_at t p ≡ None)). g.2) (th.each p)

  pub no_file_stays : (p : PathView) → is_file s p ≡ false → is_file t p ≡ false
  no_file_stays p unnamed =
      ⊎_elim (λ (same : place_at t p ≡ place_at s p). file_as s t p same ∙ unnamed)
      (λ (g : May p × IsOfStore root p × (place_at t p ≡ None)). ap (λ o. option_map_or is_file_place o false) g.2) (th.each p)

  pub no_folder_stays : (p : PathView) → is_folder s p ≡ false → is_folder t p ≡ false
  no_folder_stays p unmade =
      ⊎_elim (λ (same : place_at t p ≡ place_at s p). folder_as s t p same ∙ unmade)
      (λ (g : May p × IsOfStore root p × (place_at t p ≡ None)). ap (λ o. option_map_or is_folder_place o false) g.2) (th.each p)

  -- what is there was there
  pub was_there : (p : PathView) (place : Place) → place_at t p ≡ Some place → place_at s p ≡ Some place
  was_there p place is =
      ⊎_elim (λ (same : place_at t p ≡ place_at s p). sym same ∙ is)
      (λ (g : May p × IsOfStore root p × (place_at t p ≡ None)). let h : Some place ≡ None = sym is ∙ g.2 in cc) (th.each p)

  -- where nothing but the store's stood, nothing else stands
  pub only_stays : (folder : PathView) → HasOnly root folder s → HasOnly root folder t
  only_stays folder only p below =
      ⊎_elim
      (λ (same : place_at t p ≡ place_at s p).
      ⊎_elim (λ (none : place_at s p ≡ None). inl (same ∙ none))
      (λ (there : (IsStoreName root p × (is_file s p ≡ true)) ⊎ (IsStoreFolder root p × (is_folder s p ≡ true))).
      ⊎_elim (λ (f : IsStoreName root p × (is_file s p ≡ true)). inr (inl (f.0, file_as s t p same ∙ f.1))) (λ (f : IsStoreFolder root p × (is_folder s p ≡ true)). inr (inr (f.0, folder_as s t p same ∙ f.1))) there)
      (only p below))
      (λ (g : May p × IsOfStore root p × (place_at t p ≡ None)). inl g.2)
      (th.each p)

-- ---- one after the other

pub thinned_none : (root : PathView) (May : PathView → Type 0) (s : State) → Thinned root May s s
thinned_none root May s = record { each = λ p. inl refl; nodes = λ n. refl }

pub thinned_then : (root : PathView) (May : PathView → Type 0) (s t u : State) → Thinned root May s t → Thinned root May t u → Thinned root May s u
thinned_then root May s t u a b = record {
  each = λ p. ⊎_elim
      (λ (same : place_at u p ≡ place_at t p).
      ⊎_elim (λ (was : place_at t p ≡ place_at s p). inl (same ∙ was)) (λ (g : May p × IsOfStore root p × (place_at t p ≡ None)). inr (g.0, g.1, same ∙ g.2)) (a.each p))
      (λ (g : May p × IsOfStore root p × (place_at u p ≡ None)). inr g)
      (b.each p);
  nodes = λ n. b.nodes n ∙ a.nodes n;
}

-- ---- by moves that take away

thinned_remove : (root : PathView) (May : PathView → Type 0) (s : State) (t : List ℕ) (p : PathView) → IsStoreName root p → May p → Thinned root May s (after s (t, Remove p))
thinned_remove root May s t p name may = record {
  each = λ q. ⊎_elim (λ (same : place_at (after s (t, Remove p)) q ≡ place_at s q). inl same)
      (λ (e : q ≡ p). inr (subst May (sym e) may, subst (IsOfStore root) (sym e) (inl name), ap (place_at (after s (t, Remove p))) e ∙ removed_here s t p)) (step_or_touch s (t, Remove p) q);
  nodes = λ n. node_at-after s (t, Remove p) n;
}

thinned_remove_dir : (root : PathView) (May : PathView → Type 0) (s : State) (t : List ℕ) (p : PathView) → IsStoreFolder root p → May p → Thinned root May s (after s (t, RemoveDir p))
thinned_remove_dir root May s t p folder may = record {
  each = λ q. ⊎_elim (λ (same : place_at (after s (t, RemoveDir p)) q ≡ place_at s q). inl same)
      (λ (e : q ≡ p). inr (subst May (sym e) may, subst (IsOfStore root) (sym e) (inr folder), ap (place_at (after s (t, RemoveDir p))) e ∙ unmade_here s t p)) (step_or_touch s (t, RemoveDir p) q);
  nodes = λ n. node_at-after s (t, RemoveDir p) n;
}

thinned_step : (root : PathView) (May : PathView → Type 0) (s : State) (t : List ℕ) (m : Move) → IsTaking root May m → Thinned root May s (after s (t, m))
unfolding IsTaking
thinned_step root May s t (MakeDir p) is = absurd is
thinned_step root May s t (Create p n) is = absurd is
thinned_step root May s t (Append n bytes) is = absurd is
thinned_step root May s t (Rename p q) is = absurd is
thinned_step root May s t (Remove p) is = thinned_remove root May s t p is.0 is.1
thinned_step root May s t (RemoveDir p) is = thinned_remove_dir root May s t p is.0 is.1

module _ (root : PathView) (May : PathView → Type 0) (token : List ℕ) where
  pub thinned_run : (s : State) (xs : Trace) → OwnMoves token (IsTaking root May) xs → IsLone token xs → Thinned root May s (run s xs)
  unfolding OwnMoves IsLone
  thinned_run s [] own lone = thinned_none root May s
  thinned_run s (e ∷ es) own lone = thinned_then root May s (after s e) (run (after s e) es) (thinned_step root May s e.0 e.1 (own.0 lone.0)) (thinned_run (after s e) es own.1 lone.1)

  -- from any state between to the end
  thinned_rest : (s : State) (before later : Trace) → OwnMoves token (IsTaking root May) (before ++ later) → IsLone token (before ++ later) → Thinned root May (run s before) (run s (before ++ later))
  unfolding OwnMoves IsLone
  thinned_rest s [] later own lone = thinned_run s later own lone
  thinned_rest s (e ∷ es) later own lone = thinned_rest (after s e) es later own.1 lone.1

-- the call moved alone
module _ (root : PathView) (May : PathView → Type 0) (old new : FolderView) (m : Moves (IsTaking root May) old new) (lone : IsLone old.token (moved old new)) where
  pub thinned_alone : Thinned root May (state old) (state new)
  thinned_alone = subst (Thinned root May (state old)) (sym (state_after old new m.went)) (thinned_run root May old.token (state old) (moved old new) m.own lone)

  -- a file that was away at some state is away at the end
  pub away_at_end : (p : PathView) → AtSome (state old) (moved old new) (λ s. is_file s p ≡ false) → is_file (state new) p ≡ false
  away_at_end p (before, later, split, away) =
      let own = subst (OwnMoves old.token (IsTaking root May)) split m.own in
      let alone = subst (IsLone old.token) split lone in
      let ends : state new ≡ run (state old) (before ++ later) = state_after old new m.went ∙ ap (run (state old)) split in
      ap (λ s. is_file s p) ends ∙ no_file_stays root May (run (state old) before) (run (state old) (before ++ later)) (thinned_rest root May old.token (state old) before later own alone) p away

-- ---- bytes

-- the bytes that a path names go with what it names
bytes_as : (s t : State) (o : Option Place) → ((n : ℕ) → node_at t n ≡ node_at s n) → bytes_of t o ≡ bytes_of s o
bytes_as s t None nodes = refl
bytes_as s t (Some place) nodes = elim place as (λ (k : Place). bytes_of t (Some k) ≡ bytes_of s (Some k)) [ Folder ↦ refl | File n ↦ ap (option_map (λ v. v.bytes)) (nodes n) ]

pub as_before : (root : PathView) (May : PathView → Type 0) (s t : State) → Thinned root May s t → (p : PathView) → place_at t p ≡ place_at s p → IsAsBefore p s t
as_before root May s t th p same = (same, ap (bytes_of t) same ∙ bytes_as s t (place_at s p) th.nodes)
