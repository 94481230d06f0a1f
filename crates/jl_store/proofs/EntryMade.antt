-- Making the entry's folder.
use Rattle.jl_text.specs.Texts.{is_token}
use Rattle.std.specs.Prelude.{IsTrue}
use Rattle.std.proofs.Common.{◌≡◌, ◌≢◌, ◌⊎◌, inl, inr, ⊎_elim, ℕ, true, false, List, ◌++◌, Option, None, Some, IsSome, true≢false, refl, sym, ap, subst, ◌∙◌}
use Rattle.std.specs.Option.{option_map_or}
use Rattle.jl_text.specs.Paths.{PathView}
use Rattle.jl_folder.specs.declared.moves.Place.{Place}
use Rattle.jl_folder.specs.declared.moves.Place.TheVariants.{Folder, File}
use Rattle.jl_folder.specs.declared.moves.Move.{Move}
use Rattle.jl_folder.specs.declared.moves.Move.TheVariants.{MakeDir}
use Rattle.jl_folder.specs.declared.folder.MadeDir.{MadeDir}
use Rattle.jl_folder.specs.declared.folder.MadeDir.TheVariants as made_dir
use Rattle.jl_folder.specs.State.{State, place_at, is_folder, is_folder_place, after, run}
use Rattle.jl_folder.specs.Views.{FolderView, state, moved}
use Rattle.jl_folder.specs.Calls.{Call, MakesDir, Maybe, own_event}
use Rattle.jl_folder.proofs.Traces.{run-append}
use Rattle.jl_entry.specs.declared.names.EntryFile.{EntryFile}
use Rattle.jl_entry.specs.declared.names.EntryFile.TheVariants.{Output, Metadata, Access}
use Rattle.jl_rely.specs.Steps.{IsLone, OwnMoves}
use Rattle.jl_rely.specs.Claims.{Moves, Anywhere}
use Rattle.jl_rely.specs.Touches.{Touches, TouchedByOther}
use Rattle.jl_rely.proofs.Since.{now_went}
use Rattle.jl_rely.proofs.Moving.{moves_none, moves_call}
use Rattle.jl_rely.proofs.Alone.{moves_alone}
use Rattle.jl_rely.proofs.Touched.{IsApart}
use Rattle.jl_rely.proofs.Effects.{made_here}
use Rattle.jl_rely.proofs.Causes.{folder_as, until_end, lost_parent}
use Rattle.jl_rely.proofs.Composed.{IsOwnTurn, went_call, own_still, own_step, turn_called, carried_stable}
use Rattle.jl_protocol.specs.Tidy.{IsTidy}
use Rattle.jl_protocol.specs.Proper.{IsProper}
use Rattle.jl_protocol.proofs.Kills.{tidy_carried}
use Rattle.jl_protocol.proofs.LawfulCalls.{always_make_dir}
use Rattle.jl_clear.specs.Taking.{IsBeside}
use Rattle.jl_clear.proofs.Folders.{final_no_folder, temp_no_folder}
use Rattle.jl_store.specs.Keeping.{EntryPlace, entry_path, function_path, file_of, last_of, temp_of, IsKeeping, IsMakingEntry, RenamesEntry, PutsEntry, UsesEntry, KeepsEntry, IsReadyFor, AreReady, IsAnyFile, made_of}
use Rattle.jl_store.specs.declared.answer.Keep.TheVariants as keep
use Rattle.jl_store.proofs.Drafts.{beside_same, untouched, bytes_stay}
use Rattle.jl_store.proofs.EntryNames.{IsNamed, final_of, temp_is, entry_in_store, entry_parent, entry_home, entry_not_last, entry_not_temp}

-- makes this folder
abbrev MakesThis : PathView → Move → Type 0
MakesThis p m = m ≡ MakeDir p

makes_apart : (p x : PathView) → x ≢ p → IsApart (MakesThis p) x
makes_apart p x ne m is touch = ne (subst (λ n. Touches n x) is touch)

keeping_makes : (e : EntryPlace) (token : List ℕ) → IsKeeping e token (MakeDir (entry_path e))
unfolding IsKeeping
keeping_makes e token = refl

renames_no_dir : (e : EntryPlace) (text : EntryFile → List ℕ) (s : State) (p : PathView) → RenamesEntry e text s (MakeDir p)
unfolding RenamesEntry
renames_no_dir e text s p = tt

-- a place that is no file is a folder
folder_if : (o : Option Place) → IsSome o → ((n : ℕ) → o ≡ Some (File n) → ⊥) → option_map_or is_folder_place o false ≡ true
folder_if None some none = absurd (true≢false (sym some))
folder_if (Some place) some none = elim place as (λ (k : Place). ((n : ℕ) → Some k ≡ Some (File n) → ⊥) → is_folder_place k ≡ true) [ Folder ↦ λ h. refl | File n ↦ λ h. absurd (h n refl) ] none

pub made_fault : (r : MadeDir) → made_of r ≡ keep.Fault → r ≡ made_dir.Failed
made_fault made_dir.Made e' = absurd (cc)
made_fault made_dir.Exists e' = absurd (cc)
made_fault made_dir.NoParent e' = absurd (cc)
made_fault made_dir.Failed e' = refl
made_fault made_dir.NoMemory e' = absurd (cc)

module _ (e : EntryPlace) (named : IsNamed e) (old new : FolderView) (same : new.token ≡ old.token) (ok : IsTrue (is_token old.token)) where
  abbrev token : List ℕ
  token = old.token

  abbrev Turn : (EntryFile → List ℕ) → State → Option Move → Type 0
  Turn text s own = IsOwnTurn (IsProper e.root) (PutsEntry e text) token (IsKeeping e token) (IsTidy e.root) Anywhere s own

  still : (text : EntryFile → List ℕ) (s : State) (own : Option Move) → own ≡ None → Turn text s own
  still text s own none = own_still (IsProper e.root) (PutsEntry e text) token (IsKeeping e token) (IsTidy e.root) Anywhere s own none (λ tidy. tt)

  makes : (text : EntryFile → List ℕ) (s : State) (own : Option Move) → own ≡ Some (MakeDir (entry_path e)) → Turn text s own
  makes text s own just =
      own_step (IsProper e.root) (PutsEntry e text) token (IsKeeping e token) (IsTidy e.root) Anywhere s own (MakeDir (entry_path e)) just (keeping_makes e token)
      (λ tidy may. ((always_make_dir e.root token s (entry_path e) (entry_in_store e named), renames_no_dir e text s (entry_path e)), λ given. tt))

  maybe : (text : EntryFile → List ℕ) (s : State) (own : Option Move) → Maybe (MakeDir (entry_path e)) own → Turn text s own
  maybe text s own (inl none) = still text s own none
  maybe text s own (inr just) = makes text s own just

  owns : (text : EntryFile → List ℕ) (r : MadeDir) (s : State) (own : Option Move) → MakesDir (entry_path e) r s own → Turn text s own
  owns text made_dir.Made s own gives = makes text s own gives.2
  owns text made_dir.Exists s own gives = still text s own gives.1
  owns text made_dir.NoParent s own gives = still text s own gives.2
  owns text made_dir.Failed s own gives = maybe text s own gives
  owns text made_dir.NoMemory s own gives = maybe text s own gives

  missed : (r : MadeDir) → Call old new (MakesDir (entry_path e) r) → made_of r ≡ keep.Skipped → is_folder (state old) (function_path e) ≡ true → TouchedByOther token (UsesEntry e token) (moved old new)
  missed made_dir.Made call is was = absurd (cc)
  missed made_dir.Exists call is was = absurd (cc)
  missed made_dir.NoParent call is was =
      lost_parent (UsesEntry e token) (λ m. ⊥) (entry_path e) (inr (inr (entry_parent e))) (λ m no_move touch. no_move) old old new (moves_none (λ m. ⊥) old) (MakesDir (entry_path e) made_dir.NoParent) call (entry_home e (state old) was) call.answer.1
  missed made_dir.Failed call is was = absurd (cc)
  missed made_dir.NoMemory call is was = absurd (cc)

  pub made_keeps : (text : EntryFile → List ℕ) (r : MadeDir) → Call old new (MakesDir (entry_path e) r) → KeepsEntry e text (λ s. is_folder s (function_path e) ≡ true) (λ steps. Unit {0}) (made_of r) old new
  made_keeps text r call = record {
    call = turn_called (IsProper e.root) (PutsEntry e text) (IsKeeping e token) (IsTidy e.root) Anywhere (MakesDir (entry_path e) r) old new (carried_stable (IsProper e.root) token (IsTidy e.root) (tidy_carried e.root)) same call (owns text r);
    kept = λ is. tt;
    skipped = λ is was. missed r call is was;
  }

  pub made_only : (r : MadeDir) → Call old new (MakesDir (entry_path e) r) → OwnMoves token (IsMakingEntry e) (moved old new)
  made_only r call = (moves_call (IsMakingEntry e) old new (MakesDir (entry_path e) r) (by r) same call).own
    where
      by_maybe : (own : Option Move) → Maybe (MakeDir (entry_path e)) own → (own ≡ None) ⊎ ((m : Move) × (own ≡ Some m) × IsMakingEntry e m)
      by_maybe own (inl none) = inl none
      by_maybe own (inr just) = inr (MakeDir (entry_path e), just, refl)

      by : (r' : MadeDir) (s : State) (own : Option Move) → MakesDir (entry_path e) r' s own → (own ≡ None) ⊎ ((m : Move) × (own ≡ Some m) × IsMakingEntry e m)
      by made_dir.Made s own gives = inr (MakeDir (entry_path e), gives.2, refl)
      by made_dir.Exists s own gives = inl gives.1
      by made_dir.NoParent s own gives = inl gives.2
      by made_dir.Failed s own gives = by_maybe own gives
      by made_dir.NoMemory s own gives = by_maybe own gives

  -- ---- what is ready then

  made_moves : (r : MadeDir) (call : Call old new (MakesDir (entry_path e) r)) → made_of r ≡ keep.Kept → Moves (MakesThis (entry_path e)) old new
  made_moves r call is = moves_call (MakesThis (entry_path e)) old new (MakesDir (entry_path e) r) (by r is) same call
    where
      by : (r' : MadeDir) → made_of r' ≡ keep.Kept → (s : State) (own : Option Move) → MakesDir (entry_path e) r' s own → (own ≡ None) ⊎ ((m : Move) × (own ≡ Some m) × MakesThis (entry_path e) m)
      by made_dir.Made is' s own gives = inr (MakeDir (entry_path e), gives.2, refl)
      by made_dir.Exists is' s own gives = inl gives.1
      by made_dir.NoParent is' s own gives = absurd (cc)
      by made_dir.Failed is' s own gives = absurd (cc)
      by made_dir.NoMemory is' s own gives = absurd (cc)

  end_is : (r : MadeDir) (call : Call old new (MakesDir (entry_path e) r)) → state new ≡ run (run (state old) call.others) (own_event token call.own)
  end_is r call = now_went old new (call.others ++ own_event token call.own) (went_call old new (MakesDir (entry_path e) r) call) ∙ run-append (state old) call.others (own_event token call.own)

  stands : (r : MadeDir) (call : Call old new (MakesDir (entry_path e) r)) → made_of r ≡ keep.Kept → IsTidy e.root (state old) → (is_folder (state new) (entry_path e) ≡ true) ⊎ TouchedByOther token (UsesEntry e token) (moved old new)
  stands made_dir.Made call is tidy =
      let at : state new ≡ after (run (state old) call.others) (token, MakeDir (entry_path e)) = end_is made_dir.Made call ∙ ap (λ o. run (run (state old) call.others) (own_event token o)) call.answer.2 in
      inl (ap (λ o. option_map_or is_folder_place o false) (ap (λ s. place_at s (entry_path e)) at ∙ made_here (run (state old) call.others) token (entry_path e)))
  stands made_dir.Exists call is tidy =
      let at : state new ≡ run (state old) call.others = end_is made_dir.Exists call ∙ ap (λ o. run (run (state old) call.others) (own_event token o)) call.answer.1 in
      ⊎_elim
      (λ (stays : place_at (state new) (entry_path e) ≡ place_at (state old) (entry_path e)).
      inl (folder_if (place_at (state new) (entry_path e)) (subst (λ s. IsSome (place_at s (entry_path e))) (sym at) call.answer.0)
      (λ n file. tidy.no_file (entry_path e) n (sym stays ∙ file) (entry_in_store e named))))
      (λ (t : TouchedByOther token (UsesEntry e token) (moved old new)). inr t)
      (until_end (UsesEntry e token) (λ m. ⊥) (entry_path e) (inr (inl refl)) (λ m no_move touch. no_move) old new
      (moves_call (λ m. ⊥) old new (MakesDir (entry_path e) made_dir.Exists) (λ s own gives. inl gives.1) same call))
  stands made_dir.NoParent call is tidy = absurd (cc)
  stands made_dir.Failed call is tidy = absurd (cc)
  stands made_dir.NoMemory call is tidy = absurd (cc)

  ready_for : (r : MadeDir) (call : Call old new (MakesDir (entry_path e) r)) → made_of r ≡ keep.Kept → IsTidy e.root (state old) → is_folder (state new) (entry_path e) ≡ true → (file : EntryFile) → IsReadyFor e token file (state new) ⊎ TouchedByOther token (UsesEntry e token) (moved old new)
  ready_for r call is tidy home file =
      let moves = made_moves r call is in
      ⊎_elim
      (λ (a : place_at (state new) (last_of e file) ≡ place_at (state old) (last_of e file)).
      ⊎_elim
      (λ (b : place_at (state new) (temp_of e token file) ≡ place_at (state old) (temp_of e token file)).
      inl (record {
        home = home;
        last_free = folder_as (state old) (state new) (last_of e file) a ∙ final_no_folder e.root (file_of e file) (last_of e file) (state old) (final_of e named file) tidy;
        temp_free = folder_as (state old) (state new) (temp_of e token file) b ∙ temp_no_folder e.root (file_of e file) token (temp_of e token file) (state old) (temp_is e named token ok file) tidy;
      }))
      (λ (t : TouchedByOther token (UsesEntry e token) (moved old new)). inr t)
      (until_end (UsesEntry e token) (MakesThis (entry_path e)) (temp_of e token file) (inl (file, inr refl)) (makes_apart (entry_path e) (temp_of e token file) (λ s. entry_not_temp e token file (sym s))) old new moves))
      (λ (t : TouchedByOther token (UsesEntry e token) (moved old new)). inr t)
      (until_end (UsesEntry e token) (MakesThis (entry_path e)) (last_of e file) (inl (file, inl refl)) (makes_apart (entry_path e) (last_of e file) (λ s. entry_not_last e file (sym s))) old new moves)

  pub made_ready : (r : MadeDir) → Call old new (MakesDir (entry_path e) r) → made_of r ≡ keep.Kept → IsTidy e.root (state old) → AreReady e token IsAnyFile (state new) ⊎ TouchedByOther token (UsesEntry e token) (moved old new)
  made_ready r call is tidy =
      ⊎_elim
      (λ (home : is_folder (state new) (entry_path e) ≡ true).
      ⊎_elim
      (λ (a : IsReadyFor e token Output (state new)).
      ⊎_elim
      (λ (b : IsReadyFor e token Metadata (state new)).
      ⊎_elim
      (λ (d : IsReadyFor e token Access (state new)). inl (λ file any. all a b d file))
      (λ (t : TouchedByOther token (UsesEntry e token) (moved old new)). inr t)
      (ready_for r call is tidy home Access))
      (λ (t : TouchedByOther token (UsesEntry e token) (moved old new)). inr t)
      (ready_for r call is tidy home Metadata))
      (λ (t : TouchedByOther token (UsesEntry e token) (moved old new)). inr t)
      (ready_for r call is tidy home Output))
      (λ (t : TouchedByOther token (UsesEntry e token) (moved old new)). inr t)
      (stands r call is tidy)
    where
      all : IsReadyFor e token Output (state new) → IsReadyFor e token Metadata (state new) → IsReadyFor e token Access (state new) → (file : EntryFile) → IsReadyFor e token file (state new)
      all a b d Output = a
      all a b d Metadata = b
      all a b d Access = d

  -- ---- alone

  made_beside : (s : State) → IsBeside (λ p. p ≡ entry_path e) s (after s (token, MakeDir (entry_path e)))
  made_beside s p apart =
      let place = untouched s (token, MakeDir (entry_path e)) p apart in (place, bytes_stay s (after s (token, MakeDir (entry_path e))) p place (λ n file. refl))

  pub made_alone : (r : MadeDir) → Call old new (MakesDir (entry_path e) r) → made_of r ≡ keep.Kept → IsLone token (moved old new) → IsBeside (λ p. p ≡ entry_path e) (state old) (state new)
  made_alone r call is lone =
      let alone = moves_alone old new (MakesDir (entry_path e) r) call lone in by r is alone.own alone.answer alone.after
    where
      by : (r' : MadeDir) → made_of r' ≡ keep.Kept → (own : Option Move) → MakesDir (entry_path e) r' (state old) own → state new ≡ run (state old) (own_event token own) → IsBeside (λ p. p ≡ entry_path e) (state old) (state new)
      by made_dir.Made is' own gives end = subst (IsBeside (λ p. p ≡ entry_path e) (state old)) (sym (end ∙ ap (λ o. run (state old) (own_event token o)) gives.2)) (made_beside (state old))
      by made_dir.Exists is' own gives end = beside_same (λ p. p ≡ entry_path e) (state old) (state new) (end ∙ ap (λ o. run (state old) (own_event token o)) gives.1)
      by made_dir.NoParent is' own gives end = absurd (cc)
      by made_dir.Failed is' own gives end = absurd (cc)
      by made_dir.NoMemory is' own gives end = absurd (cc)
