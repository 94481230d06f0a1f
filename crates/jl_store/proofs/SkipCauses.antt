-- Why checking a function's code was skipped: another's step made or removed a name that it uses.
use Rattle.std.proofs.Common.{◌≡◌, ◌≢◌, ◌⊎◌, inl, inr, ⊎_elim, ℕ, List, [], ◌∷◌, ◌++◌, Bool, true, false, not, ◌&&◌, Option, None, Some, is_some, length, refl, sym, ap, subst, ◌∙◌, arith, true≢false, append_assoc, append-nil, length-append}
use Rattle.std.specs.Option.{option_map_or}
use Rattle.jl_text.specs.Paths.{PathView, is_fixed, parent}
use Rattle.jl_folder.specs.declared.moves.Place.{Place}
use Rattle.jl_folder.specs.declared.moves.Place.TheVariants.{Folder, File}
use Rattle.jl_folder.specs.declared.moves.Move.TheVariants.{MakeDir, Create, Append, Rename, Remove, RemoveDir}
use Rattle.jl_folder.specs.State.{State, Trace, IsForeign, IsTrace, place_at, is_folder, is_folder_place, has_parent, run}
use Rattle.jl_folder.specs.Views.{FolderView, state, moved}
use Rattle.jl_folder.specs.Calls.{Waits}
use Rattle.jl_folder.proofs.Traces.{run-append}
use Rattle.jl_folder.specs.Reading.{OpenedHas}
use Rattle.jl_entry.specs.Names.{code_part}
use Rattle.jl_rely.specs.Steps.{AllSteps}
use Rattle.jl_rely.specs.Claims.{GoesOn, Moves}
use Rattle.jl_rely.specs.Touches.{TouchedByOther}
use Rattle.jl_rely.proofs.Traces.{IsTrace-left, AllSteps-left, AllSteps-right, foreign_own}
use Rattle.jl_rely.proofs.Since.{since_went, moved_then, state_after}
use Rattle.jl_rely.proofs.Composed.{went_waits, goes_waits}
use Rattle.jl_rely.proofs.Touched.{IsApart, same_or_touched, touched_right, touched_as}
use Rattle.jl_rely.proofs.Causes.{touched_later, touched_sooner, until_end}
use Rattle.jl_protocol.specs.Proper.{IsProper}
use Rattle.jl_protocol.specs.Tidy.{IsTidy}
use Rattle.jl_protocol.proofs.Kills.{tidy_at_end}
use Rattle.jl_clear.proofs.Paths.{parent_in}
use Rattle.jl_store.specs.Doing.{IsPrefix, IsEmptying, IsClearing}
use Rattle.jl_store.specs.Kinds.{UsesNames}
use Rattle.jl_store.specs.Checking.{AreFiles, Holds, UsesCode, check_of}
use Rattle.jl_store.specs.declared.files.Published.{Published}
use Rattle.jl_store.specs.declared.files.Published.TheVariants as published
use Rattle.jl_store.specs.declared.checks.CodeCheck.{CodeCheck}
use Rattle.jl_store.specs.declared.checks.CodeCheck.TheVariants as check
use Rattle.jl_store.specs.declared.checks.Held.{Held}
use Rattle.jl_store.specs.declared.checks.Held.TheVariants as held
use Rattle.jl_store.specs.declared.checks.CodeFiles.{CodeFiles}
use Rattle.jl_store.proofs.NamePlaces.{free_of_two}

-- ---- answers

pub check_skipped : (p : Published) (done : CodeCheck) → (done ≢ check.Skipped) → check_of p done ≡ check.Skipped → p ≡ published.Skipped
check_skipped published.Done done ne e = absurd (ne e)
check_skipped published.Skipped done ne e = refl
check_skipped published.Fault done ne e = cc
check_skipped published.NoMemory done ne e = cc

-- a fault is told only where the publishing had one
pub check_fault : (p : Published) (done : CodeCheck) → (done ≢ check.StoreFault) → check_of p done ≡ check.StoreFault → p ≡ published.Fault
check_fault published.Done done ne e = absurd (ne e)
check_fault published.Skipped done ne e = cc
check_fault published.Fault done ne e = refl
check_fault published.NoMemory done ne e = cc

pub fault_check : (p : Published) (done : CodeCheck) → p ≡ published.Fault → check_of p done ≡ check.StoreFault
fault_check p done e = ap (λ (q : Published). check_of q done) e

-- ---- places

-- a folder, as a place
folder_here : (s : State) (p : PathView) → is_folder s p ≡ true → place_at s p ≡ Some Folder
folder_here s p e =
    elim (place_at s p) as (λ (o : Option Place). option_map_or is_folder_place o false ≡ true → o ≡ Some Folder) [
      | None ↦ λ h. absurd (true≢false (sym h))
      | Some k ↦ elim k as (λ (j : Place). is_folder_place j ≡ true → Some j ≡ Some Folder) [ Folder ↦ λ h. refl | File n ↦ λ h. absurd (true≢false (sym h)) ]
    ] e

pub and_second : (a b : Bool) → (a && b) ≡ true → b ≡ true
and_second true b e = e
and_second false b e = absurd (true≢false (sym e))

-- the folder of a code's file
module _ (root : PathView) (m f token : List ℕ) (files : CodeFiles) (are : AreFiles root m f token files) where
  last_in : files.last ≡ files.folder ++ code_part ∷ []
  last_in = are.1.is ∙ sym (append_assoc root (m ∷ f ∷ []) (code_part ∷ [])) ∙ ap (λ (p : PathView). p ++ code_part ∷ []) (sym are.0)

  last_parent : parent files.last ≡ files.folder
  last_parent = ap parent last_in ∙ parent_in files.folder code_part

  last_free : is_fixed files.last ≡ false
  last_free = ap is_fixed are.1.is ∙ free_of_two root m f (code_part ∷ [])

  has_folder : (s : State) → place_at s files.folder ≡ Some Folder → has_parent s files.last ≡ true
  has_folder s e = (λ i. not (last_free i) && is_folder s (last_parent i)) ∙ ap (λ o. option_map_or is_folder_place o false) e

  -- where the file stands, so does its folder
  folder_of_file : (s : State) (n : ℕ) → IsTidy root s → place_at s files.last ≡ Some (File n) → place_at s files.folder ≡ Some Folder
  folder_of_file s n tidy e =
      let has = tidy.state.parents files.last last_free (ap is_some e) in
      ap (place_at s) (sym last_parent) ∙ folder_here s (parent files.last) (and_second (not (is_fixed files.last)) (is_folder s (parent files.last)) has)

  abbrev U : PathView → Type 0
  U = UsesCode files.folder files.last files.temp

  names_used : (p : PathView) → UsesNames files.last files.temp p → U p
  names_used p (inl e) = inr (inl e)
  names_used p (inr (inl e)) = inr (inr e)
  names_used p (inr (inr e)) = inl ([], sym (e ∙ last_parent) ∙ sym (append-nil p))

  module _ (old mid new : FolderView) (first : GoesOn old mid) (second : GoesOn mid new) where
    pub steps_first : AllSteps (IsProper root) (state old) (moved old new) → AllSteps (IsProper root) (state old) (moved old mid)
    steps_first all = AllSteps-left (IsProper root) (state old) (moved old mid) (moved mid new) (subst (AllSteps (IsProper root) (state old)) (moved_then old mid new first second) all)

    pub steps_second : AllSteps (IsProper root) (state old) (moved old new) → AllSteps (IsProper root) (state mid) (moved mid new)
    steps_second all =
        subst (λ s. AllSteps (IsProper root) s (moved mid new)) (sym (state_after old mid first))
        (AllSteps-right (IsProper root) (state old) (moved old mid) (moved mid new) (subst (AllSteps (IsProper root) (state old)) (moved_then old mid new first second) all))

    pub tidy_between : IsTidy root (state old) → AllSteps (IsProper root) (state old) (moved old new) → IsTidy root (state mid)
    tidy_between tidy all = subst (IsTidy root) (sym (state_after old mid first)) (tidy_at_end root (state old) (moved old mid) first.lawful (steps_first all) tidy)

    -- the publishing was skipped, after other moves
    pub skips_then : (place_at (state mid) files.folder ≡ Some Folder) ⊎ TouchedByOther old.token U (moved old mid)
        → (IsTidy root (state mid) → has_parent (state mid) files.last ≡ true → TouchedByOther mid.token (UsesNames files.last files.temp) (moved mid new))
        → IsTidy root (state old) → AllSteps (IsProper root) (state old) (moved old new) → TouchedByOther old.token U (moved old new)
    skips_then there skip tidy all =
        ⊎_elim
        (λ (is : place_at (state mid) files.folder ≡ Some Folder).
        touched_later U old mid new first second (touched_as mid.token (UsesNames files.last files.temp) U names_used (moved mid new) (skip (tidy_between tidy all) (has_folder (state mid) is))))
        (λ (t : TouchedByOther old.token U (moved old mid)). touched_sooner U old mid new first second t)
        there

  -- folders that were made, or touched
  pub folders_used : (old mid : FolderView) → (place_at (state mid) files.folder ≡ Some Folder) ⊎ TouchedByOther old.token (λ p. IsPrefix p files.folder) (moved old mid) → (place_at (state mid) files.folder ≡ Some Folder) ⊎ TouchedByOther old.token U (moved old mid)
  folders_used old mid (inl is) = inl is
  folders_used old mid (inr t) = inr (touched_as old.token (λ p. IsPrefix p files.folder) U (λ p front. inl front) (moved old mid) t)

  -- clearing leaves the function's folder
  clearing_apart : IsApart (IsClearing files.folder) files.folder
  unfolding IsEmptying
  clearing_apart (MakeDir p) is touch = is.2
  clearing_apart (Create p n) is touch = is.2
  clearing_apart (Append n bytes) is touch = is.2
  clearing_apart (Rename p q) is touch = is.2
  clearing_apart (Remove p) is touch = omega (arith, ap length (touch ∙ is.2.2), length-append (files.folder ++ is.0 ∷ []) (is.2.0 ∷ []), length-append files.folder (is.0 ∷ []))
  clearing_apart (RemoveDir p) is touch = omega (arith, ap length (touch ∙ is.2), length-append files.folder (is.0 ∷ []))

  pub cleared_there : (old mid : FolderView) → Moves (IsClearing files.folder) old mid → place_at (state old) files.folder ≡ Some Folder → (place_at (state mid) files.folder ≡ Some Folder) ⊎ TouchedByOther old.token U (moved old mid)
  cleared_there old mid moves was =
      ⊎_elim (λ (same : place_at (state mid) files.folder ≡ place_at (state old) files.folder). inl (same ∙ was)) (λ (t : TouchedByOther old.token U (moved old mid)). inr t)
      (until_end U (IsClearing files.folder) files.folder (inl ([], sym (append-nil files.folder))) clearing_apart old mid moves)

  -- ---- the reading before

  foreign_right : (t : List ℕ) (xs ys : Trace) → IsForeign t (xs ++ ys) → IsForeign t ys
  foreign_right t [] ys a = a
  foreign_right t (e ∷ es) ys a = foreign_right t es ys a.1

  -- where the file was opened its folder stood, and another touched it if it stands no longer
  opened_there : (P : List ℕ → Type 0) (old mid : FolderView) → mid.token ≡ old.token → Waits old mid → IsTidy root (state old) → AllSteps (IsProper root) (state old) (moved old mid) → OpenedHas files.last P (state old) (moved old mid)
      → (place_at (state mid) files.folder ≡ Some Folder) ⊎ TouchedByOther old.token U (moved old mid)
  opened_there P old mid same waits tidy all o =
      let goes = goes_waits old mid same waits in
      let rest = o.middle ++ o.later in
      let foreign : IsForeign old.token (o.before ++ rest) = subst (IsForeign old.token) (sym (since_went old mid waits.others (went_waits old mid waits)) ∙ o.split) waits.foreign in
      let may : IsTrace (state old) (o.before ++ rest) = subst (IsTrace (state old)) o.split goes.lawful in
      let steps : AllSteps (IsProper root) (state old) (o.before ++ rest) = subst (AllSteps (IsProper root) (state old)) o.split all in
      let s = run (state old) o.before in
      let tidy_then = tidy_at_end root (state old) o.before (IsTrace-left (state old) o.before rest may) (AllSteps-left (IsProper root) (state old) o.before rest steps) tidy in
      let was = folder_of_file s o.node tidy_then o.named in
      let end : state mid ≡ run s rest = state_after old mid goes ∙ ap (run (state old)) o.split ∙ run-append (state old) o.before rest in
      ⊎_elim
      (λ (stays : place_at (run s rest) files.folder ≡ place_at s files.folder). inl (ap (λ u. place_at u files.folder) end ∙ stays ∙ was))
      (λ (t : TouchedByOther old.token U rest). inr (subst (TouchedByOther old.token U) (sym o.split) (touched_right old.token U o.before rest t)))
      (same_or_touched old.token U (λ m. ⊥) files.folder (inl ([], sym (append-nil files.folder))) (λ m no_move touch. no_move) s rest (foreign_own old.token (λ m. ⊥) rest (foreign_right old.token o.before rest foreign)))

  pub skips_held : (code : List ℕ) (h : Held) (old mid new : FolderView) → mid.token ≡ old.token → Waits old mid → GoesOn mid new → Holds files.last code h (state old) (moved old mid)
      → (IsTidy root (state mid) → AllSteps (IsProper root) (state mid) (moved mid new) → (h ≡ held.Other → place_at (state mid) files.folder ≡ Some Folder) → TouchedByOther mid.token U (moved mid new))
      → IsTidy root (state old) → AllSteps (IsProper root) (state old) (moved old new) → TouchedByOther old.token U (moved old new)
  skips_held code h old mid new same waits second holds skip tidy all = by_case h holds (λ pre. skip tidy_mid all_mid pre)
    where
      first : GoesOn old mid
      first = goes_waits old mid same waits

      tidy_mid : IsTidy root (state mid)
      tidy_mid = tidy_between old mid new first second tidy all

      all_mid : AllSteps (IsProper root) (state mid) (moved mid new)
      all_mid = steps_second old mid new first second all

      later : TouchedByOther mid.token U (moved mid new) → TouchedByOther old.token U (moved old new)
      later t = touched_later U old mid new first second t

      by_case : (k : Held) → Holds files.last code k (state old) (moved old mid) → ((k ≡ held.Other → place_at (state mid) files.folder ≡ Some Folder) → TouchedByOther mid.token U (moved mid new)) → TouchedByOther old.token U (moved old new)
      by_case held.Same o go = later (go (λ e. cc))
      by_case held.Absent o go = later (go (λ e. cc))
      by_case held.Other o go =
          ⊎_elim
          (λ (is : place_at (state mid) files.folder ≡ Some Folder). later (go (λ e. is)))
          (λ (t : TouchedByOther old.token U (moved old mid)). touched_sooner U old mid new first second t)
          (opened_there _ old mid same waits tidy (steps_first old mid new first second all) o)
      by_case held.Fault o go = later (go (λ e. cc))
      by_case held.NoMemory o go = later (go (λ e. cc))
