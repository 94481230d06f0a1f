-- What a part of a cached call leaves for the next: the folder in which that one keeps.
use Rattle.std.proofs.Common.{◌≡◌, ◌≢◌, ◌⊎◌, inl, inr, ⊎_elim, ℕ, List, [], ◌∷◌, ◌++◌, true, false, not, is_some, length, refl, sym, ap, subst, ◌∙◌, arith, append_assoc, length-append}
use Rattle.jl_text.specs.Paths.{PathView, is_fixed, parent}
use Rattle.jl_text.specs.Counts.{Rose}
use Rattle.jl_folder.specs.declared.moves.Move.{Move}
use Rattle.jl_folder.specs.declared.moves.Move.TheVariants.{Rename}
use Rattle.jl_folder.specs.State.{State, Event, Trace, IsTrace, place_at, is_folder, after, run}
use Rattle.jl_folder.specs.Views.{FolderView, state, moved}
use Rattle.jl_folder.specs.Calls.{Waits}
use Rattle.jl_folder.proofs.Traces.{run-append}
use Rattle.jl_folder.specs.Reading.{OpenedHas}
use Rattle.jl_entry.specs.Names.{code_part, suffix}
use Rattle.jl_entry.specs.declared.names.EntryFile.TheVariants.{Output}
use Rattle.jl_rely.specs.Steps.{AllSteps, OwnMoves}
use Rattle.jl_rely.specs.Claims.{GoesOn, Moves, Silent}
use Rattle.jl_rely.specs.Touches.{Touches, TouchedByOther}
use Rattle.jl_rely.proofs.Since.{state_after}
use Rattle.jl_rely.proofs.Moving.{moves_waits}
use Rattle.jl_rely.proofs.Traces.{IsTrace-left, IsTrace-right, AllSteps-left}
use Rattle.jl_rely.proofs.Touched.{step_or_touch, same_or_touched, touched_right, touched_as}
use Rattle.jl_rely.proofs.Causes.{folder_as, until_end}
use Rattle.jl_protocol.specs.Proper.{IsProper}
use Rattle.jl_protocol.proofs.Kills.{tidy_at_end}
use Rattle.jl_clear.proofs.Paths.{parent_in}
use Rattle.jl_store.specs.Asked.{Asked, output_asked}
use Rattle.jl_store.specs.Checking.{UsesCode, Checks, function_path, code_path, code_temp}
use Rattle.jl_store.specs.Keeping.{entry_path}
use Rattle.jl_store.specs.Publishing.{EndsIn}
use Rattle.jl_store.specs.Next.{entry_asked}
use Rattle.jl_store.specs.Warned.{IsOrderly, UsesCall}
use Rattle.jl_store.specs.Parts.{HasFunction, HasFolder}
use Rattle.jl_store.specs.declared.checks.CodeCheck.{CodeCheck}
use Rattle.jl_store.specs.declared.checks.CodeCheck.TheVariants as check
use Rattle.jl_store.proofs.SkipCauses.{and_second}
use Rattle.jl_store.proofs.NamePlaces.{free_of_two}
use Rattle.jl_store.proofs.EntryNames.{last_parent, last_free}

OwnMoves-right : (token : List ℕ) (Kinds : Move → Type 0) (xs ys : Trace) → OwnMoves token Kinds (xs ++ ys) → OwnMoves token Kinds ys
unfolding OwnMoves
OwnMoves-right token Kinds [] ys own = own
OwnMoves-right token Kinds (e ∷ es) ys own = OwnMoves-right token Kinds es ys own.1

-- while others move there is no own step
pub waits_silent : (old new : FolderView) → new.token ≡ old.token → Waits old new → Moves Silent old new
waits_silent old new same waits = moves_waits Silent old new same waits

-- ---- the folder of a file

module _ (Uses : PathView → Type 0) (home : PathView) (uses : Uses home) (old new : FolderView) (moves : Moves Silent old new) where
  -- a folder stays, where no own step is made
  pub still_there : is_folder (state old) home ≡ true → (is_folder (state new) home ≡ true) ⊎ TouchedByOther old.token Uses (moved old new)
  still_there was =
      ⊎_elim (λ (same : place_at (state new) home ≡ place_at (state old) home). inl (folder_as (state old) (state new) home same ∙ was)) (λ (t : TouchedByOther old.token Uses (moved old new)). inr t)
      (until_end Uses Silent home uses (λ m no_move touch. no_move) old new moves)

  -- where a file was opened its folder stood, and another touched that if it stands no longer
  pub opened_home : (root path : PathView) (P : List ℕ → Type 0) → parent path ≡ home → is_fixed path ≡ false → IsOrderly root old new → OpenedHas path P (state old) (moved old new)
      → (is_folder (state new) home ≡ true) ⊎ TouchedByOther old.token Uses (moved old new)
  opened_home root path P in_home free orderly o =
      let rest = o.middle ++ o.later in
      let may : IsTrace (state old) (o.before ++ rest) = subst (IsTrace (state old)) o.split moves.went.lawful in
      let steps : AllSteps (IsProper root) (state old) (o.before ++ rest) = subst (AllSteps (IsProper root) (state old)) o.split orderly.1 in
      let own : OwnMoves old.token Silent (o.before ++ rest) = subst (OwnMoves old.token Silent) o.split moves.own in
      let s = run (state old) o.before in
      let tidy = tidy_at_end root (state old) o.before (IsTrace-left (state old) o.before rest may) (AllSteps-left (IsProper root) (state old) o.before rest steps) orderly.0 in
      let has = tidy.state.parents path free (ap is_some o.named) in
      let was : is_folder s home ≡ true = ap (is_folder s) (sym in_home) ∙ and_second (not (is_fixed path)) (is_folder s (parent path)) has in
      let end : state new ≡ run s rest = state_after old new moves.went ∙ ap (run (state old)) o.split ∙ run-append (state old) o.before rest in
      ⊎_elim
      (λ (same : place_at (run s rest) home ≡ place_at s home). inl (ap (λ (u : State). is_folder u home) end ∙ folder_as s (run s rest) home same ∙ was))
      (λ (t : TouchedByOther old.token Uses rest). inr (subst (TouchedByOther old.token Uses) (sym o.split) (touched_right old.token Uses o.before rest t)))
      (same_or_touched old.token Uses Silent home uses (λ m no_move touch. no_move) s rest (OwnMoves-right old.token Silent o.before rest own))

-- a rename into a folder leaves it there
ends_home : (token : List ℕ) (temp last home : PathView) (old new : FolderView) → GoesOn old new → parent last ≡ home → home ≢ temp → home ≢ last → EndsIn (token, Rename temp last) (moved old new) → is_folder (state new) home ≡ true
ends_home token temp last home old new goes in_home not_temp not_last ends =
    let step : Event = (token, Rename temp last) in
    let s = run (state old) ends.0 in
    let may : IsTrace (state old) (ends.0 ++ step ∷ []) = subst (IsTrace (state old)) ends.1 goes.lawful in
    let here = (IsTrace-right (state old) ends.0 (step ∷ []) may).0 in
    let was : is_folder s home ≡ true = ap (is_folder s) (sym in_home) ∙ and_second (not (is_fixed last)) (is_folder s (parent last)) here.2 in
    let end : state new ≡ after s step = state_after old new goes ∙ ap (run (state old)) ends.1 ∙ run-append (state old) ends.0 (step ∷ []) in
    let kept : is_folder (after s step) home ≡ true =
    ⊎_elim
    (λ (same : place_at (after s step) home ≡ place_at s home). folder_as s (after s step) home same ∙ was)
    (λ (touch : Touches (Rename temp last) home). ⊎_elim (λ (e : home ≡ temp). absurd (not_temp e)) (λ (e : home ≡ last). absurd (not_last e)) touch)
    (step_or_touch s step home) in
    ap (λ (u : State). is_folder u home) end ∙ kept

-- ---- the parts

module _ (a : Asked) where
  abbrev home : PathView
  home = function_path a.root a.module_name a.function_name

  abbrev last : PathView
  last = code_path a.root a.module_name a.function_name

  abbrev temp : PathView
  temp = code_temp a.root a.module_name a.function_name a.token

  last_home : parent last ≡ home
  last_home = ap parent (sym (append_assoc a.root (a.module_name ∷ a.function_name ∷ []) (code_part ∷ []))) ∙ parent_in home code_part

  code_free : is_fixed last ≡ false
  code_free = free_of_two a.root a.module_name a.function_name (code_part ∷ [])

  longer : (part : List ℕ) → home ≢ a.root ++ a.module_name ∷ a.function_name ∷ part ∷ []
  longer part e =
      let long : length (a.root ++ a.module_name ∷ a.function_name ∷ []) ≡ length (a.root ++ a.module_name ∷ a.function_name ∷ part ∷ []) = ap length e in
      omega (arith, long, length-append a.root (a.module_name ∷ a.function_name ∷ []), length-append a.root (a.module_name ∷ a.function_name ∷ part ∷ []))

  pub code_uses : (p : PathView) → UsesCode home last temp p → UsesCall a p
  code_uses p u = inl u

  home_used : UsesCall a home
  home_used = inr (inr (inr refl))

  folder_used : UsesCall a (entry_path (entry_asked a))
  folder_used = inr (inr (inl refl))

  module _ (old new : FolderView) (goes : GoesOn old new) (mine : old.token ≡ a.token) where
    abbrev Touched : Type 0
    Touched = TouchedByOther a.token (UsesCall a) (moved old new)

    by_token : {A : Type 0} → A ⊎ TouchedByOther old.token (UsesCall a) (moved old new) → A ⊎ Touched
    by_token (inl x) = inl x
    by_token (inr t) = inr (subst (λ (u : List ℕ). TouchedByOther u (UsesCall a) (moved old new)) mine t)

    renamed_home : EndsIn (old.token, Rename temp last) (moved old new) → HasFunction a (state new)
    renamed_home ends = ends_home old.token temp last home old new goes last_home (longer (code_part ++ suffix a.token)) (longer code_part) ends

    same_home : (code : List ℕ) → IsOrderly a.root old new → Checks check.Same home last temp code old new → HasFunction a (state new) ⊎ Touched
    same_home code orderly checks = by_token (opened_home (UsesCall a) home home_used old new (record { went = goes; own = checks.1 }) a.root last _ last_home code_free orderly checks.0)

    -- after the check of the code, the function's folder is there
    pub checked_home : (c : CodeCheck) (code : List ℕ) → IsOrderly a.root old new → Checks c home last temp code old new
        → (c ≡ check.Skipped → TouchedByOther a.token (UsesCode home last temp) (moved old new))
        → ((c ≡ check.LoadFault) ⊎ (c ≡ check.StoreFault) → Rose old.faults new.faults) → c ≢ check.NoMemory
        → HasFunction a (state new) ⊎ (Touched ⊎ Rose old.faults new.faults)
    checked_home check.Same code orderly checks skipped failed memory =
        ⊎_elim (λ (is : HasFunction a (state new)). inl is) (λ (t : Touched). inr (inl t)) (same_home code orderly checks)
    checked_home check.Written code orderly checks skipped failed memory = inl (renamed_home checks.1)
    checked_home check.Cleared code orderly checks skipped failed memory = inl (renamed_home checks.1)
    checked_home check.Skipped code orderly checks skipped failed memory = inr (inl (touched_as a.token (UsesCode home last temp) (UsesCall a) code_uses (moved old new) (skipped refl)))
    checked_home check.LoadFault code orderly checks skipped failed memory = inr (inr (failed (inl refl)))
    checked_home check.StoreFault code orderly checks skipped failed memory = inr (inr (failed (inr refl)))
    checked_home check.NoMemory code orderly checks skipped failed memory = absurd (memory refl)

    -- after a look that found a value, the entry's folder is
    pub found_home : (P : List ℕ → Type 0) → OwnMoves old.token Silent (moved old new) → IsOrderly a.root old new → OpenedHas (output_asked a) P (state old) (moved old new)
        → HasFolder a (state new) ⊎ Touched
    found_home P silent orderly o =
        by_token
        (opened_home (UsesCall a) (entry_path (entry_asked a)) folder_used old new (record { went = goes; own = silent }) a.root (output_asked a) P (last_parent (entry_asked a) Output) (last_free (entry_asked a) Output) orderly o)

    -- and after another look, the function's folder still is
    pub missed_home : OwnMoves old.token Silent (moved old new) → HasFunction a (state old) → HasFunction a (state new) ⊎ Touched
    missed_home silent was = by_token (still_there (UsesCall a) home home_used old new (record { went = goes; own = silent }) was)
