-- A look-up at a path changes only by a step that makes or removes the name.
use Rattle.std.proofs.Common.{◌≡◌, ◌≢◌, ◌⊎◌, inl, inr, ⊎_elim, ℕ, List, [], ◌∷◌, ◌++◌, true, false, cond, Option, None, Some, true≢false, refl, sym, ◌∙◌}
use Rattle.std.specs.Str.{bytes_eq}
use Rattle.std.proofs.lemmas.Slice.Eq.{bytes_eq-Decides}
use Rattle.jl_text.specs.Paths.{PathView, path_eq}
use Rattle.jl_folder.specs.declared.moves.Place.{Place}
use Rattle.jl_folder.specs.declared.moves.Place.TheVariants.{Folder, File}
use Rattle.jl_folder.specs.declared.moves.Move.{Move}
use Rattle.jl_folder.specs.declared.moves.Move.TheVariants.{MakeDir, Create, Append, Rename, Remove, RemoveDir}
use Rattle.jl_folder.specs.State.{State, Event, Trace, IsForeign, place_at, after, run}
use Rattle.jl_folder.specs.Looks.{place_after, place_renamed}
use Rattle.jl_folder.proofs.Looks.{place_at-after}
use Rattle.jl_folder.proofs.PathLemmas.{path_eq-Decides}
use Rattle.jl_rely.specs.Steps.{OwnMoves}
use Rattle.jl_rely.specs.Touches.{Touches, TouchedByOther}
use Rattle.jl_rely.proofs.Traces.{foreign_own}

pub same_path : (p q : PathView) → (p ≡ q) ⊎ (p ≢ q)
same_path p q = elim (path_eq p q) as (λ b. path_eq p q ≡ b → (p ≡ q) ⊎ (p ≢ q)) [
  | true ↦ λ e. inl ((path_eq-Decides p q).0 e)
  | false ↦ λ e. inr (λ is. true≢false (sym ((path_eq-Decides p q).1 is) ∙ e))
] refl

pub same_token : (t u : List ℕ) → (t ≡ u) ⊎ (t ≢ u)
same_token t u = elim (bytes_eq t u) as (λ b. bytes_eq t u ≡ b → (t ≡ u) ⊎ (t ≢ u)) [
  | true ↦ λ e. inl ((bytes_eq-Decides t u).0 e)
  | false ↦ λ e. inr (λ is. true≢false (sym ((bytes_eq-Decides t u).1 is) ∙ e))
] refl

-- a look-up elsewhere passes over a change at p
elsewhere : (x p : PathView) (here there : Option Place) → (cond (path_eq x p) here there ≡ there) ⊎ (x ≡ p)
elsewhere x p here there = elim (path_eq x p) as (λ b. path_eq x p ≡ b → (cond b here there ≡ there) ⊎ (x ≡ p)) [
  | true ↦ λ e. inr ((path_eq-Decides x p).0 e)
  | false ↦ λ e. inl refl
] refl

renamed_or_touch : (was : Option Place) (p q x : PathView) (here : Option Place) → (place_renamed was p q x here ≡ here) ⊎ ((x ≡ p) ⊎ (x ≡ q))
renamed_or_touch None p q x here = inl refl
renamed_or_touch (Some place) p q x here =
    elim place as (λ (k : Place). (place_renamed (Some k) p q x here ≡ here) ⊎ ((x ≡ p) ⊎ (x ≡ q))) [
      | Folder ↦ inl refl
      | File n ↦ ⊎_elim
          (λ (to : cond (path_eq x q) (Some (File n)) (cond (path_eq x p) None here) ≡ cond (path_eq x p) None here).
          ⊎_elim (λ (from : cond (path_eq x p) None here ≡ here). inl (to ∙ from)) (λ (e : x ≡ p). inr (inl e)) (elsewhere x p None here))
          (λ (e : x ≡ q). inr (inr e))
          (elsewhere x q (Some (File n)) (cond (path_eq x p) None here))
    ]

after_or_touch : (s : State) (e : Event) (x : PathView) → (place_after s e x ≡ place_at s x) ⊎ Touches e.1 x
after_or_touch s (t, MakeDir p) x = elsewhere x p (Some Folder) (place_at s x)
after_or_touch s (t, Create p n) x = elsewhere x p (Some (File n)) (place_at s x)
after_or_touch s (t, Append n bytes) x = inl refl
after_or_touch s (t, Rename p q) x = renamed_or_touch (place_at s p) p q x (place_at s x)
after_or_touch s (t, Remove p) x = elsewhere x p None (place_at s x)
after_or_touch s (t, RemoveDir p) x = elsewhere x p None (place_at s x)

pub step_or_touch : (s : State) (e : Event) (x : PathView) → (place_at (after s e) x ≡ place_at s x) ⊎ Touches e.1 x
step_or_touch s e x = ⊎_elim (λ (same : place_after s e x ≡ place_at s x). inl (place_at-after s e x ∙ same)) (λ touch. inr touch) (after_or_touch s e x)

-- own moves of these kinds touch no name but others
abbrev pub IsApart : (Move → Type 0) → PathView → Type 0
IsApart Kinds x = (m : Move) → Kinds m → Touches m x → ⊥

module _ (token : List ℕ) (Uses : PathView → Type 0) where
  pub same_or_touched : (Kinds : Move → Type 0) (x : PathView) → Uses x → IsApart Kinds x → (s : State) (es : Trace) → OwnMoves token Kinds es → (place_at (run s es) x ≡ place_at s x) ⊎ TouchedByOther token Uses es
  unfolding OwnMoves TouchedByOther
  same_or_touched Kinds x uses apart s [] own = inl refl
  same_or_touched Kinds x uses apart s (e ∷ es) own =
      ⊎_elim
      (λ (here : place_at (after s e) x ≡ place_at s x).
      ⊎_elim (λ (later : place_at (run (after s e) es) x ≡ place_at (after s e) x). inl (later ∙ here)) (λ touched. inr (inr touched)) (same_or_touched Kinds x uses apart (after s e) es own.1))
      (λ (touch : Touches e.1 x).
      ⊎_elim (λ (mine : e.0 ≡ token). absurd (apart e.1 (own.0 mine) touch)) (λ (other : e.0 ≢ token). inr (inl (other, (x, uses, touch)))) (same_token e.0 token))
      (step_or_touch s e x)

  -- what the look-up gave before and doesn't now, another touched
  pub changed_is_touched : (Kinds : Move → Type 0) (x : PathView) → Uses x → IsApart Kinds x → (s : State) (es : Trace) → OwnMoves token Kinds es → (place_at (run s es) x ≢ place_at s x) → TouchedByOther token Uses es
  changed_is_touched Kinds x uses apart s es own changed =
      ⊎_elim (λ (same : place_at (run s es) x ≡ place_at s x). absurd (changed same)) (λ touched. touched) (same_or_touched Kinds x uses apart s es own)

  pub touched_left : (xs ys : Trace) → TouchedByOther token Uses xs → TouchedByOther token Uses (xs ++ ys)
  unfolding TouchedByOther
  touched_left [] ys t = absurd t
  touched_left (e ∷ es) ys (inl here) = inl here
  touched_left (e ∷ es) ys (inr there) = inr (touched_left es ys there)

  pub touched_right : (xs ys : Trace) → TouchedByOther token Uses ys → TouchedByOther token Uses (xs ++ ys)
  unfolding TouchedByOther
  touched_right [] ys t = t
  touched_right (e ∷ es) ys t = inr (touched_right es ys t)

pub touched_as : (token : List ℕ) (U V : PathView → Type 0) → ((p : PathView) → U p → V p) → (xs : Trace) → TouchedByOther token U xs → TouchedByOther token V xs
unfolding TouchedByOther
touched_as token U V f [] t = t
touched_as token U V f (e ∷ es) (inl here) = inl (here.0, (here.1.0, f here.1.0 here.1.1, here.1.2))
touched_as token U V f (e ∷ es) (inr there) = inr (touched_as token U V f es there)

-- others alone
pub foreign_or_touched : (token : List ℕ) (x : PathView) (s : State) (others : Trace) → IsForeign token others → (place_at (run s others) x ≡ place_at s x) ⊎ TouchedByOther token (λ p. p ≡ x) others
foreign_or_touched token x s others foreign =
    same_or_touched token (λ p. p ≡ x) (λ m. ⊥) x refl (λ m no_move touch. no_move) s others (foreign_own token (λ m. ⊥) others foreign)
