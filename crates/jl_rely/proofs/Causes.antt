-- Why an answer is not what the state at the entry would give: another's step made or removed a name.
use Rattle.std.proofs.Common.{◌≡◌, ◌⊎◌, inl, inr, ⊎_elim, ℕ, List, ◌++◌, Bool, true, false, not, ◌&&◌, Option, None, Some, true≢false, refl, sym, ap, subst, ◌∙◌, append_assoc}
use Rattle.std.specs.Option.{option_map_or}
use Rattle.jl_text.specs.Paths.{PathView, is_fixed, parent}
use Rattle.jl_folder.specs.declared.moves.Place.{Place}
use Rattle.jl_folder.specs.declared.moves.Place.TheVariants.{Folder, File}
use Rattle.jl_folder.specs.declared.moves.Move.{Move}
use Rattle.jl_folder.specs.State.{State, place_at, is_folder, is_file, is_folder_place, is_file_place, has_parent, run}
use Rattle.jl_folder.specs.Views.{FolderView, state, moved}
use Rattle.jl_folder.specs.Calls.{Call, own_event}
use Rattle.jl_folder.proofs.Traces.{run-append}
use Rattle.jl_rely.specs.Steps.{OwnMoves}
use Rattle.jl_rely.specs.Claims.{GoesOn, Moves}
use Rattle.jl_rely.specs.Touches.{TouchedByOther}
use Rattle.jl_rely.proofs.Traces.{OwnMoves-append, foreign_own}
use Rattle.jl_rely.proofs.Since.{since_went, went_on, went_since, moved_then, state_after}
use Rattle.jl_rely.proofs.Composed.{went_call}
use Rattle.jl_rely.proofs.Touched.{IsApart, same_or_touched, touched_left, touched_right}

-- ---- what a place is

pub folder_as : (s t : State) (p : PathView) → place_at t p ≡ place_at s p → is_folder t p ≡ is_folder s p
folder_as s t p same = ap (λ o. option_map_or is_folder_place o false) same

pub file_as : (s t : State) (p : PathView) → place_at t p ≡ place_at s p → is_file t p ≡ is_file s p
file_as s t p same = ap (λ o. option_map_or is_file_place o false) same

pub parent_as : (s t : State) (p : PathView) → place_at t (parent p) ≡ place_at s (parent p) → has_parent t p ≡ has_parent s p
parent_as s t p same = ap (λ b. not (is_fixed p) && b) (folder_as s t (parent p) same)

left_of : (a b : Bool) → (not a && b) ≡ true → a ≡ false
left_of true b e = cc
left_of false b e = refl

-- what has a parent is neither of the two folders without one
pub parent_free : (s : State) (p : PathView) → has_parent s p ≡ true → is_fixed p ≡ false
parent_free s p e = left_of (is_fixed p) (is_folder s (parent p)) e

-- neither a folder nor a file
pub place_none : (o : Option Place) → option_map_or is_folder_place o false ≡ false → option_map_or is_file_place o false ≡ false → o ≡ None
place_none None a b = refl
place_none (Some place) a b =
    elim place as (λ (k : Place). is_folder_place k ≡ false → is_file_place k ≡ false → Some k ≡ None) [ Folder ↦ λ a b. absurd (true≢false a) | File n ↦ λ a b. absurd (true≢false b) ] a b

-- ---- causes

module _ (Uses : PathView → Type 0) where
  pub touched_later : (old mid new : FolderView) → GoesOn old mid → GoesOn mid new → TouchedByOther mid.token Uses (moved mid new) → TouchedByOther old.token Uses (moved old new)
  touched_later old mid new first second t =
      subst (TouchedByOther old.token Uses) (sym (moved_then old mid new first second)) (touched_right old.token Uses (moved old mid) (moved mid new) (subst (λ (u : List ℕ). TouchedByOther u Uses (moved mid new)) first.token t))

  pub touched_sooner : (old mid new : FolderView) → GoesOn old mid → GoesOn mid new → TouchedByOther old.token Uses (moved old mid) → TouchedByOther old.token Uses (moved old new)
  touched_sooner old mid new first second t =
      subst (TouchedByOther old.token Uses) (sym (moved_then old mid new first second)) (touched_left old.token Uses (moved old mid) (moved mid new) t)

  module _ (Kinds : Move → Type 0) (x : PathView) (uses : Uses x) (apart : IsApart Kinds x) where
    -- at the end of own moves of these kinds
    pub until_end : (old new : FolderView) → Moves Kinds old new → (place_at (state new) x ≡ place_at (state old) x) ⊎ TouchedByOther old.token Uses (moved old new)
    until_end old new moves =
        ⊎_elim
        (λ (same : place_at (run (state old) (moved old new)) x ≡ place_at (state old) x). inl (ap (λ s. place_at s x) (state_after old new moves.went) ∙ same))
        (λ (t : TouchedByOther old.token Uses (moved old new)). inr t)
        (same_or_touched old.token Uses Kinds x uses apart (state old) (moved old new) moves.own)

    -- after own moves of these kinds, where the next call answers
    module _ (old mid new : FolderView) (moves : Moves Kinds old mid) (Answer : State → Option Move → Type 0) (call : Call mid new Answer) where
      pub until_answer : (place_at (run (state mid) call.others) x ≡ place_at (state old) x) ⊎ TouchedByOther old.token Uses (moved old new)
      until_answer =
          let xs = moved old mid in
          let others = call.others in
          let last = own_event mid.token call.own in
          let is : moved old new ≡ (xs ++ others) ++ last =
          since_went old new (xs ++ (others ++ last)) (went_on old mid new xs (others ++ last) (went_since old mid moves.went) (went_call mid new Answer call)) ∙ sym (append_assoc xs others last) in
          let there : run (state old) (xs ++ others) ≡ run (state mid) others = run-append (state old) xs others ∙ ap (λ s. run s others) (sym (state_after old mid moves.went)) in
          ⊎_elim
          (λ (same : place_at (run (state old) (xs ++ others)) x ≡ place_at (state old) x). inl (ap (λ s. place_at s x) (sym there) ∙ same))
          (λ (t : TouchedByOther old.token Uses (xs ++ others)). inr (subst (TouchedByOther old.token Uses) (sym is) (touched_left old.token Uses (xs ++ others) last t)))
          (same_or_touched old.token Uses Kinds x uses apart (state old) (xs ++ others)
          (OwnMoves-append old.token Kinds xs others moves.own (subst (λ (t : List ℕ). OwnMoves t Kinds others) moves.went.token (foreign_own mid.token Kinds others call.foreign))))

      -- a folder that wasn't there
      pub new_folder : is_folder (state old) x ≡ false → is_folder (run (state mid) call.others) x ≡ true → TouchedByOther old.token Uses (moved old new)
      new_folder was is =
          ⊎_elim (λ (same : place_at (run (state mid) call.others) x ≡ place_at (state old) x). absurd (true≢false (sym is ∙ folder_as (state old) (run (state mid) call.others) x same ∙ was))) (λ t. t) until_answer

      -- a file that was there
      pub lost_file : (n : ℕ) → place_at (state old) x ≡ Some (File n) → is_file (run (state mid) call.others) x ≡ false → TouchedByOther old.token Uses (moved old new)
      lost_file n was is =
          ⊎_elim
          (λ (same : place_at (run (state mid) call.others) x ≡ place_at (state old) x). absurd (true≢false (sym (ap (λ o. option_map_or is_file_place o false) (same ∙ was)) ∙ is)))
          (λ t. t)
          until_answer

  -- a parent that was there
  pub lost_parent : (Kinds : Move → Type 0) (p : PathView) → Uses (parent p) → IsApart Kinds (parent p) → (old mid new : FolderView) → Moves Kinds old mid → (Answer : State → Option Move → Type 0) (call : Call mid new Answer) → has_parent (state old) p ≡ true → has_parent (run (state mid) call.others) p ≡ false → TouchedByOther old.token Uses (moved old new)
  lost_parent Kinds p uses apart old mid new moves Answer call was is =
      ⊎_elim
      (λ (same : place_at (run (state mid) call.others) (parent p) ≡ place_at (state old) (parent p)). absurd (true≢false (sym was ∙ sym (parent_as (state old) (run (state mid) call.others) p same) ∙ is)))
      (λ t. t)
      (until_answer Kinds (parent p) uses apart old mid new moves Answer call)
