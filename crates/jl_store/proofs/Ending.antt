-- The last calls of publishing.
use Rattle.std.proofs.Common.{◌≡◌, ◌≢◌, inl, inr, ⊎_elim, ℕ, true, false, List, [], ◌∷◌, ◌++◌, Option, None, Some, refl, sym, ap, subst, ◌∙◌, append_assoc}
use Rattle.jl_text.specs.Paths.{PathView, parent}
use Rattle.jl_folder.specs.declared.moves.Place.TheVariants.{File}
use Rattle.jl_folder.specs.declared.moves.Move.{Move}
use Rattle.jl_folder.specs.declared.moves.Move.TheVariants.{Rename}
use Rattle.jl_folder.specs.declared.folder.Renamed.{Renamed}
use Rattle.jl_folder.specs.declared.folder.Renamed.TheVariants as renamed
use Rattle.jl_folder.specs.State.{State, Trace, place_at, is_folder, has_parent, run}
use Rattle.jl_folder.specs.Views.{FolderView, state, moved}
use Rattle.jl_folder.specs.Calls.{Call, NoMove, RenamesFile, own_event}
use Rattle.jl_entry.specs.Names.{Final, IsFinal, IsTemp}
use Rattle.jl_rely.specs.Steps.{IsLone}
use Rattle.jl_rely.specs.Claims.{Called, Moves, GoesOn, Anywhere}
use Rattle.jl_rely.specs.Touches.{TouchedByOther}
use Rattle.jl_rely.proofs.Since.{since_went, moved_then}
use Rattle.jl_rely.proofs.Moving.{moves_none}
use Rattle.jl_rely.proofs.Alone.{moves_alone}
use Rattle.jl_rely.proofs.Touched.{IsApart, touched_as}
use Rattle.jl_rely.proofs.Causes.{folder_as, parent_as, touched_later, touched_sooner, until_end, new_folder, lost_file, lost_parent}
use Rattle.jl_rely.proofs.Composed.{IsStable, IsOwnTurn, always_stable, went_call, own_still, own_step, turn_called}
use Rattle.jl_protocol.specs.Whole.{IsWhole}
use Rattle.jl_protocol.specs.Proper.{IsProper}
use Rattle.jl_protocol.specs.Owned.{IsOwnFile}
use Rattle.jl_protocol.proofs.Owning.{own_stable, own_has, rename_proper}
use Rattle.jl_store.specs.Kinds.{IsAppend, IsOnName, IsFor, RenamesThis, PutsThis, UsesFile, UsesNames}
use Rattle.jl_store.specs.Publishing.{CallsOn, BytesLeft, BytesAlone, EndsIn, IsDraft, IsPublished}
use Rattle.jl_store.specs.declared.files.Wrote.{Wrote}
use Rattle.jl_store.specs.declared.files.Wrote.TheVariants as wrote
use Rattle.jl_store.proofs.KindFacts.{for_rename, append_apart, on_name_apart}
use Rattle.jl_store.proofs.NamePlaces.{Beside, one_parent, parent_apart}
use Rattle.jl_store.proofs.Drafts.{renamed_published, still_alone}
use Rattle.jl_store.proofs.Making.{calls_then}

-- ---- closing

left_stable : (root : PathView) (x : Final) (token : List ℕ) (temp : PathView) → IsTemp root x token temp → (n : ℕ) (bytes : List ℕ) (r : Wrote) → IsStable (IsProper root) token (BytesLeft token temp n bytes r)
left_stable root x token temp is_temp n bytes wrote.All = own_stable root token x temp is_temp n bytes
left_stable root x token temp is_temp n bytes wrote.Fault = always_stable (IsProper root) token
left_stable root x token temp is_temp n bytes wrote.NoMemory = always_stable (IsProper root) token

module _ (temp : PathView) (n : ℕ) (bytes : List ℕ) (r : Wrote) (old mid new : FolderView) (same : mid.token ≡ old.token) (same' : new.token ≡ mid.token) where
  pub closed_called : (Pre : PathView → State → Type 0) → CallsOn temp IsAppend Pre (λ root. BytesLeft old.token temp n bytes r) old mid → Call mid new NoMove → CallsOn temp IsAppend Pre (λ root. BytesLeft old.token temp n bytes r) old new
  closed_called Pre calls close =
      calls_then temp IsAppend Pre (λ root. BytesLeft old.token temp n bytes r) (λ root. BytesLeft old.token temp n bytes r) old mid new same calls
      (λ root x is_temp.
      turn_called (IsProper root) (IsProper root) IsAppend (BytesLeft old.token temp n bytes r) (BytesLeft old.token temp n bytes r) NoMove mid new
      (subst (λ (u : List ℕ). IsStable (IsProper root) mid.token (BytesLeft u temp n bytes r)) same (left_stable root x mid.token temp is_temp n bytes r)) same' close
      (λ s own none. own_still (IsProper root) (IsProper root) mid.token IsAppend (BytesLeft old.token temp n bytes r) (BytesLeft old.token temp n bytes r) s own none (λ left. left)))

pub closed_alone : (token : List ℕ) (temp : PathView) (n : ℕ) (bytes : List ℕ) (r : Wrote) (before : State) (mid new : FolderView) → Call mid new NoMove → IsLone mid.token (moved mid new) → BytesAlone token temp n bytes r before (state mid) → BytesAlone token temp n bytes r before (state new)
closed_alone token temp n bytes r before mid new close lone left = subst (BytesAlone token temp n bytes r before) (sym (still_alone mid new NoMove (λ s own none. none) close lone)) left

-- ---- the rename

this_rename : (last temp : PathView) (bytes : List ℕ) (root : PathView) (x : Final) (token : List ℕ) (is_temp : IsTemp root x token temp) (n : ℕ) (s : State) → IsOwnFile token temp n bytes s → RenamesThis last bytes s (Rename temp last)
unfolding RenamesThis
this_rename last temp bytes root x token is_temp n s mine = (refl, own_has root token x temp is_temp n bytes s (λ v. v.bytes ≡ bytes) mine refl)

abbrev RenameTurn : (root last : PathView) → List ℕ → List ℕ → PathView → ℕ → State → Option Move → Type 0
RenameTurn root last bytes token temp n s own = IsOwnTurn (IsProper root) (PutsThis root last bytes) token (IsFor last temp) (IsOwnFile token temp n bytes) Anywhere s own

module _ (last temp : PathView) (old new : FolderView) where
  pub rename_called : (root : PathView) (x : Final) (n : ℕ) (bytes : List ℕ) → IsTemp root x old.token temp → IsFinal root x last → IsWhole x bytes → new.token ≡ old.token → (r : Renamed) → Call old new (RenamesFile temp last r) → Called (IsProper root) (PutsThis root last bytes) (IsFor last temp) (IsOwnFile old.token temp n bytes) Anywhere old new
  rename_called root x n bytes is_temp is_final whole same r call =
      turn_called (IsProper root) (PutsThis root last bytes) (IsFor last temp) (IsOwnFile old.token temp n bytes) Anywhere (RenamesFile temp last r) old new (own_stable root old.token x temp is_temp n bytes) same call (owns r)
    where
      still : (s : State) (own : Option Move) → own ≡ None → RenameTurn root last bytes old.token temp n s own
      still s own none = own_still (IsProper root) (PutsThis root last bytes) old.token (IsFor last temp) (IsOwnFile old.token temp n bytes) Anywhere s own none (λ mine. tt)

      puts : (s : State) (own : Option Move) → own ≡ Some (Rename temp last) → RenameTurn root last bytes old.token temp n s own
      puts s own just =
          own_step (IsProper root) (PutsThis root last bytes) old.token (IsFor last temp) (IsOwnFile old.token temp n bytes) Anywhere s own (Rename temp last) just (for_rename last temp)
          (λ mine may. ((rename_proper root old.token x temp is_temp n bytes s last is_final whole mine, this_rename last temp bytes root x old.token is_temp n s mine), λ given. tt))

      owns : (r' : Renamed) (s : State) (own : Option Move) → RenamesFile temp last r' s own → RenameTurn root last bytes old.token temp n s own
      owns renamed.Done s own gives = puts s own gives.3
      owns renamed.NoFile s own gives = still s own gives.1
      owns renamed.NoParent s own gives = still s own gives.2
      owns renamed.Blocked s own gives = still s own gives.3
      owns renamed.Failed s own (inl none) = still s own none
      owns renamed.Failed s own (inr just) = puts s own just
      owns renamed.NoMemory s own (inl none) = still s own none
      owns renamed.NoMemory s own (inr just) = puts s own just

  pub rename_ends : Call old new (RenamesFile temp last renamed.Done) → EndsIn (old.token, Rename temp last) (moved old new)
  rename_ends call = (
    call.others,
    since_went old new (call.others ++ own_event old.token call.own) (went_call old new (RenamesFile temp last renamed.Done) call) ∙ ap (λ o. call.others ++ own_event old.token o) call.answer.3,
  )

  pub rename_alone : temp ≢ last → Call old new (RenamesFile temp last renamed.Done) → (n : ℕ) (bytes : List ℕ) (before : State) → IsLone old.token (moved old new) → IsDraft old.token temp n bytes before (state old) → IsPublished last temp bytes before (state new)
  rename_alone ne call n bytes before lone draft =
      let alone = moves_alone old new (RenamesFile temp last renamed.Done) call lone in
      subst (IsPublished last temp bytes before) (sym (alone.after ∙ ap (λ o. run (state old) (own_event old.token o)) alone.answer.3)) (renamed_published old.token temp last n bytes before (state old) ne draft)

  nothing_apart : (x : PathView) → IsApart (λ m. ⊥) x
  nothing_apart x m no_move touch = no_move

  pub no_file : (n : ℕ) → place_at (state old) temp ≡ Some (File n) → Call old new (RenamesFile temp last renamed.NoFile) → TouchedByOther old.token (UsesNames last temp) (moved old new)
  no_file n was call = lost_file (UsesNames last temp) (λ m. ⊥) temp (inr (inl refl)) (nothing_apart temp) old old new (moves_none (λ m. ⊥) old) (RenamesFile temp last renamed.NoFile) call n was call.answer.0

  pub no_parent : has_parent (state old) last ≡ true → Call old new (RenamesFile temp last renamed.NoParent) → TouchedByOther old.token (UsesNames last temp) (moved old new)
  no_parent was call = lost_parent (UsesNames last temp) (λ m. ⊥) last (inr (inr refl)) (nothing_apart (parent last)) old old new (moves_none (λ m. ⊥) old) (RenamesFile temp last renamed.NoParent) call was call.answer.1

  pub blocked : is_folder (state old) last ≡ false → Call old new (RenamesFile temp last renamed.Blocked) → TouchedByOther old.token (UsesNames last temp) (moved old new)
  blocked was call = new_folder (UsesNames last temp) (λ m. ⊥) last (inl refl) (nothing_apart last) old old new (moves_none (λ m. ⊥) old) (RenamesFile temp last renamed.Blocked) call was call.answer.2

-- ---- one part after another

pub ends_later : (m : Move) (old mid new : FolderView) → GoesOn old mid → GoesOn mid new → EndsIn (mid.token, m) (moved mid new) → EndsIn (old.token, m) (moved old new)
ends_later m old mid new first second ends = (
  moved old mid ++ ends.0,
  moved_then old mid new first second ∙ ap (λ (l : Trace). moved old mid ++ l) (ends.1 ∙ ap (λ (u : List ℕ). ends.0 ++ (u, m) ∷ []) first.token) ∙ sym (append_assoc (moved old mid) ends.0 ((old.token, m) ∷ [])),
)

module _ (last temp : PathView) (old mid new : FolderView) where
  -- a part that was skipped after the bytes were appended
  pub skipped_filled : Moves IsAppend old mid → GoesOn mid new →
      ((n : ℕ) → place_at (state mid) temp ≡ Some (File n) → is_folder (state mid) last ≡ false → has_parent (state mid) last ≡ true → TouchedByOther mid.token (UsesNames last temp) (moved mid new)) →
      (n : ℕ) → place_at (state old) temp ≡ Some (File n) → is_folder (state old) last ≡ false → has_parent (state old) last ≡ true → TouchedByOther old.token (UsesNames last temp) (moved old new)
  skipped_filled moves second later n named free was =
      let sooner : TouchedByOther old.token (UsesNames last temp) (moved old mid) → TouchedByOther old.token (UsesNames last temp) (moved old new) = touched_sooner (UsesNames last temp) old mid new moves.went second in
      ⊎_elim
      (λ (a : place_at (state mid) temp ≡ place_at (state old) temp).
      ⊎_elim
      (λ (b : place_at (state mid) last ≡ place_at (state old) last).
      ⊎_elim
      (λ (d : place_at (state mid) (parent last) ≡ place_at (state old) (parent last)).
      touched_later (UsesNames last temp) old mid new moves.went second
      (later n (a ∙ named) (folder_as (state old) (state mid) last b ∙ free) (parent_as (state old) (state mid) last d ∙ was)))
      sooner
      (until_end (UsesNames last temp) IsAppend (parent last) (inr (inr refl)) (append_apart (parent last)) old mid moves))
      sooner
      (until_end (UsesNames last temp) IsAppend last (inl refl) (append_apart last) old mid moves))
      sooner
      (until_end (UsesNames last temp) IsAppend temp (inr (inl refl)) (append_apart temp) old mid moves)

  -- a part that was skipped after the temporary file was made
  pub skipped_made : temp ≢ last → Beside last temp → Moves (IsOnName temp) old mid → GoesOn mid new →
      (is_folder (state mid) last ≡ false → has_parent (state mid) last ≡ true → TouchedByOther mid.token (UsesNames last temp) (moved mid new)) →
      is_folder (state old) last ≡ false → has_parent (state old) last ≡ true → TouchedByOther old.token (UsesNames last temp) (moved old new)
  skipped_made ne both moves second later free was =
      let sooner : TouchedByOther old.token (UsesNames last temp) (moved old mid) → TouchedByOther old.token (UsesNames last temp) (moved old new) = touched_sooner (UsesNames last temp) old mid new moves.went second in
      let apart : temp ≢ parent last = λ e. parent_apart temp both.temp_free (e ∙ sym both.parents) in
      ⊎_elim
      (λ (b : place_at (state mid) last ≡ place_at (state old) last).
      ⊎_elim
      (λ (d : place_at (state mid) (parent last) ≡ place_at (state old) (parent last)).
      touched_later (UsesNames last temp) old mid new moves.went second (later (folder_as (state old) (state mid) last b ∙ free) (parent_as (state old) (state mid) last d ∙ was)))
      sooner
      (until_end (UsesNames last temp) (IsOnName temp) (parent last) (inr (inr refl)) (on_name_apart temp (parent last) apart) old mid moves))
      sooner
      (until_end (UsesNames last temp) (IsOnName temp) last (inl refl) (on_name_apart temp last ne) old mid moves)

-- the names of making the file are among those of publishing
pub file_names : (last temp : PathView) → Beside last temp → (p : PathView) → UsesFile temp p → UsesNames last temp p
file_names last temp both p (inl e) = inr (inl e)
file_names last temp both p (inr e) = inr (inr (e ∙ both.parents))

pub skipped_first : (last temp : PathView) (old new : FolderView) → Beside last temp → (is_folder (state old) temp ≡ false → has_parent (state old) temp ≡ true → TouchedByOther old.token (UsesFile temp) (moved old new)) →
    is_folder (state old) temp ≡ false → has_parent (state old) last ≡ true → TouchedByOther old.token (UsesNames last temp) (moved old new)
skipped_first last temp old new both made free was =
    touched_as old.token (UsesFile temp) (UsesNames last temp) (file_names last temp both) (moved old new) (made free (one_parent last temp (state old) both ∙ was))
