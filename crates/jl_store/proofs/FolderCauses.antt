-- Why the folders of the store are not there: another's step made or removed one of them.
use Rattle.std.proofs.Common.{◌≡◌, ◌⊎◌, inl, inr, ⊎_elim, ℕ, ◌+◌, ◌-◌, ◌≤◌, ◌<◌, List, [], ◌∷◌, ◌++◌, true, false, not, ◌&&◌, Some, IsSome, length, take, drop, refl, sym, ap, subst, ◌∙◌, arith, true≢false, take-take, length-take}
use Rattle.std.specs.Option.{option_map_or}
use Rattle.std.proofs.lemmas.List.{take-append-drop, take_all}
use Rattle.std.proofs.lemmas.Bool.Decides.{Decides-eqb}
use Rattle.jl_text.specs.Paths.{PathView, is_fixed, parent}
use Rattle.jl_folder.specs.declared.moves.Place.{Place}
use Rattle.jl_folder.specs.declared.moves.Place.TheVariants.{Folder, File}
use Rattle.jl_folder.specs.declared.moves.Move.TheVariants.{MakeDir}
use Rattle.jl_folder.specs.declared.folder.MadeDir.{MadeDir}
use Rattle.jl_folder.specs.declared.folder.MadeDir.TheVariants as made_dir
use Rattle.jl_folder.specs.State.{State, place_at, is_folder, is_folder_place, has_parent, run, after}
use Rattle.jl_folder.specs.Views.{FolderView, state, moved}
use Rattle.jl_folder.specs.Calls.{Call, MakesDir, own_event}
use Rattle.jl_folder.proofs.Traces.{run-append}
use Rattle.jl_entry.specs.Names.{IsStoreFolder, IsFunctionFolder}
use Rattle.jl_rely.specs.Steps.{AllSteps}
use Rattle.jl_rely.specs.Claims.{GoesOn}
use Rattle.jl_rely.specs.Touches.{TouchedByOther}
use Rattle.jl_rely.proofs.Traces.{IsTrace-left, AllSteps-left, AllSteps-right}
use Rattle.jl_rely.proofs.Since.{since_went, now_went, moved_then, state_after}
use Rattle.jl_rely.proofs.Composed.{went_call}
use Rattle.jl_rely.proofs.Touched.{foreign_or_touched, touched_left, touched_as}
use Rattle.jl_rely.proofs.Causes.{touched_later, touched_sooner}
use Rattle.jl_rely.proofs.Effects.{made_here}
use Rattle.jl_protocol.specs.Proper.{IsProper}
use Rattle.jl_protocol.specs.Tidy.{IsTidy}
use Rattle.jl_protocol.proofs.Before.{some_of}
use Rattle.jl_protocol.proofs.Kills.{tidy_at_end}
use Rattle.jl_store.specs.Doing.{IsPrefix}
use Rattle.jl_store.specs.Storing.{folders_of, StepOr, FoldersOr}
use Rattle.jl_store.specs.declared.folders.MadeFolders.{MadeFolders}
use Rattle.jl_store.specs.declared.folders.MadeFolders.TheVariants as made_folders
use Rattle.jl_store.proofs.StorePaths.{prefix_store}

-- ---- one folder

module _ (root p : PathView) (free : is_fixed p ≡ false) (store : IsStoreFolder root p) (old new : FolderView) where
  -- what stands where a folder of the store may stand is one
  stands : (s : State) → IsTidy root s → IsSome (place_at s p) → place_at s p ≡ Some Folder
  stands s tidy some =
      let there = some_of (place_at s p) some in
      elim there.0 as (λ (o : Place). place_at s p ≡ Some o → place_at s p ≡ Some Folder) [ Folder ↦ λ e. e | File n ↦ λ e. absurd (tidy.no_file p n e store) ] there.1

  pub one_made : (r : MadeDir) → Call old new (MakesDir p r) → IsTidy root (state old) → AllSteps (IsProper root) (state old) (moved old new) → StepOr (folders_of r) p old new
  one_made r call tidy all = by_case r call
    where
      by_case : (r' : MadeDir) → Call old new (MakesDir p r') → StepOr (folders_of r') p old new
      by_case made_dir.Made c =
          let others = c.others in
          let at : state new ≡ after (run (state old) others) (old.token, MakeDir p) =
          now_went old new (others ++ own_event old.token c.own) (went_call old new (MakesDir p made_dir.Made) c) ∙ run-append (state old) others (own_event old.token c.own) ∙ ap (λ o. run (run (state old) others) (own_event old.token o)) c.answer.2 in
          ap (λ s. place_at s p) at ∙ made_here (run (state old) others) old.token p
      by_case made_dir.Exists c =
          let others = c.others in
          let own = own_event old.token c.own in
          let is : moved old new ≡ others ++ own = since_went old new (others ++ own) (went_call old new (MakesDir p made_dir.Exists) c) in
          let there = tidy_at_end root (state old) others (IsTrace-left (state old) others own c.lawful) (AllSteps-left (IsProper root) (state old) others own (subst (AllSteps (IsProper root) (state old)) is all)) tidy in
          let at : state new ≡ run (state old) others =
          now_went old new (others ++ own) (went_call old new (MakesDir p made_dir.Exists) c) ∙ run-append (state old) others own ∙ ap (λ o. run (run (state old) others) (own_event old.token o)) c.answer.1 in
          ap (λ s. place_at s p) at ∙ stands (run (state old) others) there c.answer.0
      by_case made_dir.NoParent c = λ was.
          let others = c.others in
          let own = own_event old.token c.own in
          let is : moved old new ≡ others ++ own = since_went old new (others ++ own) (went_call old new (MakesDir p made_dir.NoParent) c) in
          let s = run (state old) others in
          ⊎_elim
          (λ (same : place_at s (parent p) ≡ place_at (state old) (parent p)).
          let has : has_parent s p ≡ true = ap (λ b. not b && is_folder s (parent p)) free ∙ ap (λ o. option_map_or is_folder_place o false) (same ∙ was) in
          absurd (true≢false (sym has ∙ c.answer.1)))
          (λ (t : TouchedByOther old.token (λ q. q ≡ parent p) others). subst (TouchedByOther old.token (λ q. q ≡ parent p)) (sym is) (touched_left old.token (λ q. q ≡ parent p) others own t))
          (foreign_or_touched old.token (parent p) (state old) others c.foreign)
      by_case made_dir.Failed c = tt
      by_case made_dir.NoMemory c = tt

-- the current folder and the topmost are there
top_is : (q : List ℕ) (qs : PathView) → length q + length qs ≡ 0 → q ∷ qs ≡ [] ∷ []
top_is [] [] e = refl
top_is [] (r ∷ rs) e = absurd (omega (arith, e))
top_is (b ∷ bs) qs e = absurd (omega (arith, e))

pub fixed_there : (root p : PathView) (s : State) → is_fixed p ≡ true → IsTidy root s → place_at s p ≡ Some Folder
fixed_there root [] s fixed tidy = tidy.state.here
fixed_there root (q ∷ qs) s fixed tidy = ap (place_at s) (top_is q qs ((Decides-eqb (length q + length qs) 0).0 fixed)) ∙ tidy.state.top

-- ---- one after another

-- the parent of a first part
parent_of : (n : ℕ) (path : PathView) → n < length path → parent (take (n + 1) path) ≡ take n path
parent_of n path lt =
    let long : length (take (n + 1) path) - 1 ≡ n = omega (arith, lt, length-take (n + 1) path) in
    ap (λ k. take k (take (n + 1) path)) long ∙ take-take n (n + 1) path (omega arith)

-- after some folders were made: the last of them is there, or another touched one
abbrev pub IsThere : (root path : PathView) → ℕ → FolderView → FolderView → Type 0
IsThere root path n old mid =
    IsFunctionFolder root path → IsTidy root (state old) → AllSteps (IsProper root) (state old) (moved old mid) → (place_at (state mid) (take n path) ≡ Some Folder) ⊎ TouchedByOther old.token (λ p. IsPrefix p path) (moved old mid)

pub there_first : (root path : PathView) (v : FolderView) → IsThere root path 0 v v
there_first root path v fun tidy all = inl tidy.state.here

module _ (root path : PathView) (n : ℕ) (lt : n < length path) (old mid new : FolderView) (first : GoesOn old mid) (second : GoesOn mid new) where
  abbrev U : PathView → Type 0
  U p = IsPrefix p path

  all_first : AllSteps (IsProper root) (state old) (moved old new) → AllSteps (IsProper root) (state old) (moved old mid)
  all_first all = AllSteps-left (IsProper root) (state old) (moved old mid) (moved mid new) (subst (AllSteps (IsProper root) (state old)) (moved_then old mid new first second) all)

  tidy_mid : IsTidy root (state old) → AllSteps (IsProper root) (state old) (moved old new) → IsTidy root (state mid)
  tidy_mid tidy all = subst (IsTidy root) (sym (state_after old mid first)) (tidy_at_end root (state old) (moved old mid) first.lawful (all_first all) tidy)

  all_second : AllSteps (IsProper root) (state old) (moved old new) → AllSteps (IsProper root) (state mid) (moved mid new)
  all_second all =
      subst (λ s. AllSteps (IsProper root) s (moved mid new)) (sym (state_after old mid first))
      (AllSteps-right (IsProper root) (state old) (moved old mid) (moved mid new) (subst (AllSteps (IsProper root) (state old)) (moved_then old mid new first second) all))

  -- the next one was made
  pub there_next : ((IsTidy root (state mid)) → AllSteps (IsProper root) (state mid) (moved mid new) → (is_fixed (take (n + 1) path) ≡ false → IsStoreFolder root (take (n + 1) path)) → StepOr made_folders.Made (take (n + 1) path) mid new) → IsThere root path (n + 1) old new
  there_next step fun tidy all =
      inl (step (tidy_mid tidy all) (all_second all) (λ free. prefix_store root path (take (n + 1) path) fun free (drop (n + 1) path, sym (take-append-drop (n + 1) path))))

  -- or its parent was gone
  pub there_skipped : IsThere root path n old mid → ((IsTidy root (state mid)) → AllSteps (IsProper root) (state mid) (moved mid new) → (is_fixed (take (n + 1) path) ≡ false → IsStoreFolder root (take (n + 1) path)) → StepOr made_folders.Skipped (take (n + 1) path) mid new)
      → IsFunctionFolder root path → IsTidy root (state old) → AllSteps (IsProper root) (state old) (moved old new) → TouchedByOther old.token (λ p. IsPrefix p path) (moved old new)
  there_skipped there step fun tidy all =
      ⊎_elim
      (λ (was : place_at (state mid) (take n path) ≡ Some Folder).
      let touched = step (tidy_mid tidy all) (all_second all) (λ free. prefix_store root path (take (n + 1) path) fun free (drop (n + 1) path, sym (take-append-drop (n + 1) path))) (ap (place_at (state mid)) (parent_of n path lt) ∙ was) in
      touched_later U old mid new first second
      (touched_as mid.token (λ q. q ≡ parent (take (n + 1) path)) U (λ q e. (drop n path, sym (take-append-drop n path) ∙ ap (λ (r : PathView). r ++ drop n path) (sym (e ∙ parent_of n path lt)))) (moved mid new) touched))
      (λ (t : TouchedByOther old.token U (moved old mid)). touched_sooner U old mid new first second t)
      (there fun tidy (all_first all))

pub there_last : (root path : PathView) (n : ℕ) (old new : FolderView) → length path ≤ n → IsThere root path n old new → IsFunctionFolder root path → IsTidy root (state old) → AllSteps (IsProper root) (state old) (moved old new) → FoldersOr made_folders.Made path old new
there_last root path n old new le there fun tidy all =
    ⊎_elim (λ (is : place_at (state new) (take n path) ≡ Some Folder). inl (sym (ap (place_at (state new)) (take_all n path le)) ∙ is)) (λ (t : TouchedByOther old.token (λ p. IsPrefix p path) (moved old new)). inr t) (there fun tidy all)

-- the same step in other words
pub step_as : (root : PathView) (at p : PathView) (r r' : MadeFolders) (mid new : FolderView) → at ≡ p → r ≡ r' → ((is_fixed at ≡ false → IsStoreFolder root at) → StepOr r at mid new) → (is_fixed p ≡ false → IsStoreFolder root p) → StepOr r' p mid new
step_as root at p r r' mid new f h step store =
    subst (λ (x : MadeFolders). StepOr x p mid new) h
    (subst (λ (x : PathView). StepOr r x mid new) f (step (subst (λ (x : PathView). is_fixed x ≡ false → IsStoreFolder root x) (sym f) store)))

-- where it ended early
pub ended_early : (r : MadeFolders) (path : PathView) (old new : FolderView) → (r ≡ made_folders.Made → ⊥) → (r ≡ made_folders.Skipped → TouchedByOther old.token (λ p. IsPrefix p path) (moved old new)) → FoldersOr r path old new
ended_early made_folders.Made path old new no_made skipped = absurd (no_made refl)
ended_early made_folders.Skipped path old new no_made skipped = skipped refl
ended_early made_folders.Fault path old new no_made skipped = tt
ended_early made_folders.NoMemory path old new no_made skipped = tt
