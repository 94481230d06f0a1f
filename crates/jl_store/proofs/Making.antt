-- Making the temporary file: what is owed, and why it was not made.
use Rattle.std.proofs.Common.{◌≡◌, ◌⊎◌, inl, inr, ⊎_elim, ℕ, List, [], ◌++◌, true, false, Option, None, Some, IsSome, is_some, true≢false, refl, sym, ap, subst, ◌∙◌}
use Rattle.jl_text.specs.Paths.{PathView, parent}
use Rattle.jl_folder.specs.declared.moves.Place.TheVariants.{File}
use Rattle.jl_folder.specs.declared.moves.OpenFile.{OpenFile}
use Rattle.jl_folder.specs.declared.moves.Move.{Move}
use Rattle.jl_folder.specs.declared.moves.Move.TheVariants.{Create, Remove}
use Rattle.jl_folder.specs.State.{State, Trace, Allowed, place_at, is_folder, is_file, has_parent, run, after}
use Rattle.jl_folder.specs.Views.{FolderView, state, moved}
use Rattle.jl_folder.specs.Calls.{Call, own_event}
use Rattle.jl_folder.proofs.Traces.{run-append}
use Rattle.jl_entry.specs.Names.{Final, IsTemp}
use Rattle.jl_rely.specs.Steps.{OwnMoves}
use Rattle.jl_rely.specs.Claims.{Called, Moves, Anywhere, GoesOn}
use Rattle.jl_rely.specs.Touches.{TouchedByOther}
use Rattle.jl_rely.proofs.Since.{Went, now_went}
use Rattle.jl_rely.proofs.Moving.{moves_by, moves_none}
use Rattle.jl_rely.proofs.Traces.{OwnMoves-append, foreign_own}
use Rattle.jl_rely.proofs.Touched.{IsApart}
use Rattle.jl_rely.proofs.Effects.{created_here, removed_here}
use Rattle.jl_rely.proofs.Causes.{folder_as, file_as, parent_as, place_none, parent_free, touched_later, touched_sooner, until_end, until_answer, lost_parent}
use Rattle.jl_rely.proofs.Composed.{IsStable, IsOwnTurn, went_call, goes_call, own_still, own_step, turn_called, then_called, called_for, carried_stable, always_stable}
use Rattle.jl_protocol.specs.Tidy.{IsTidy}
use Rattle.jl_protocol.specs.Proper.{IsProper}
use Rattle.jl_protocol.specs.Owned.{IsOwnFile}
use Rattle.jl_protocol.proofs.Kills.{tidy_carried}
use Rattle.jl_protocol.proofs.LawfulCalls.{always_remove}
use Rattle.jl_protocol.proofs.Owning.{create_proper, creates_own}
use Rattle.jl_store.specs.Kinds.{IsOnName, UsesFile}
use Rattle.jl_store.specs.Publishing.{CallsOn, MakesFile, TakesAway, TempLeft, TempNamed}
use Rattle.jl_store.specs.declared.temporary.TempFile.{TempFile}
use Rattle.jl_store.specs.declared.temporary.TempFile.TheVariants as temp_file
use Rattle.jl_store.specs.declared.temporary.Taken.{Taken}
use Rattle.jl_store.specs.declared.temporary.Taken.TheVariants as taken
use Rattle.jl_store.proofs.KindFacts.{on_create, on_remove, on_name_apart}
use Rattle.jl_store.proofs.NamePlaces.{parent_apart}

one_file : (o : Option OpenFile) (x y : OpenFile) → o ≡ Some x → o ≡ Some y → x ≡ y
one_file o x y a b = let e : Some x ≡ Some y = sym a ∙ b in cc

-- the turn of an answer
abbrev MakeTurn : List ℕ → PathView → PathView → FolderView → TempFile → State → Option Move → Type 0
MakeTurn token temp root new r s own = IsOwnTurn (IsProper root) (IsProper root) token (IsOnName temp) (IsTidy root) (TempLeft temp r new) s own

abbrev TakeTurn : List ℕ → PathView → PathView → (State → Type 0) → State → Option Move → Type 0
TakeTurn token temp root Inv s own = IsOwnTurn (IsProper root) (IsProper root) token (IsOnName temp) Inv Inv s own

module _ (temp : PathView) (old new : FolderView) (same : new.token ≡ old.token) where
  -- ---- what is owed

  pub make_called : (r : TempFile) → Call old new (MakesFile temp new.opens r) → CallsOn temp (IsOnName temp) IsTidy (λ root. TempLeft temp r new) old new
  make_called r call root x is_temp =
      turn_called (IsProper root) (IsProper root) (IsOnName temp) (IsTidy root) (TempLeft temp r new) (MakesFile temp new.opens r) old new (carried_stable (IsProper root) old.token (IsTidy root) (tidy_carried root)) same call (owns r)
    where
      still : (r' : TempFile) (s : State) (own : Option Move) → ((u : State) → TempLeft temp r' new u) → own ≡ None → MakeTurn old.token temp root new r' s own
      still r' s own left none = own_still (IsProper root) (IsProper root) old.token (IsOnName temp) (IsTidy root) (TempLeft temp r' new) s own none (λ tidy. left s)

      make : (r' : TempFile) (s : State) (own : Option Move) (n : ℕ) → ((u : State) → TempLeft temp r' new u) → own ≡ Some (Create temp n) → MakeTurn old.token temp root new r' s own
      make r' s own n left just =
          own_step (IsProper root) (IsProper root) old.token (IsOnName temp) (IsTidy root) (TempLeft temp r' new) s own (Create temp n) just (on_create temp n)
          (λ tidy may. (create_proper root old.token x temp is_temp n [] s n, λ given. left (after s (old.token, Create temp n))))

      owns : (r' : TempFile) (s : State) (own : Option Move) → MakesFile temp new.opens r' s own → MakeTurn old.token temp root new r' s own
      owns (temp_file.File number) s own gives =
          own_step (IsProper root) (IsProper root) old.token (IsOnName temp) (IsTidy root) (TempLeft temp (temp_file.File number) new) s own (Create temp gives.node) gives.move_is (on_create temp gives.node)
          (λ tidy may. (
            create_proper root old.token x temp is_temp gives.node [] s gives.node,
            λ given file is.
                subst (λ (u : List ℕ). IsOwnFile u temp file.node [] (after s (old.token, Create temp gives.node))) (sym same)
                (subst (λ (f : OpenFile). IsOwnFile old.token temp f.node [] (after s (old.token, Create temp gives.node)))
                (one_file (new.opens number.0) (record { node = gives.node; made = true }) file gives.is_open is)
                (creates_own old.token temp gives.node s tidy.state may.2)),
          ))
      owns temp_file.Skipped s own gives = still temp_file.Skipped s own (λ u. tt) gives.1
      owns temp_file.Fault s own (inl none) = still temp_file.Fault s own (λ u. tt) none
      owns temp_file.Fault s own (inr made) = make temp_file.Fault s own made.0 (λ u. tt) made.1
      owns temp_file.NoMemory s own (inl none) = still temp_file.NoMemory s own (λ u. tt) none
      owns temp_file.NoMemory s own (inr made) = make temp_file.NoMemory s own made.0 (λ u. tt) made.1

  -- a taking away, which keeps what others' proper steps keep and the own removal does
  take_keeps : (r : Taken) → Call old new (TakesAway temp r) → (root : PathView) (x : Final) → IsTemp root x old.token temp → (Inv : State → Type 0) → IsStable (IsProper root) old.token Inv → ((s : State) → Inv s → Allowed s (Remove temp) → IsProper root old.token s (Remove temp) → Inv (after s (old.token, Remove temp))) → Called (IsProper root) (IsProper root) (IsOnName temp) Inv Inv old new
  take_keeps r call root x is_temp Inv stable keeps =
      turn_called (IsProper root) (IsProper root) (IsOnName temp) Inv Inv (TakesAway temp r) old new stable same call (owns r)
    where
      still : (s : State) (own : Option Move) → own ≡ None → TakeTurn old.token temp root Inv s own
      still s own none = own_still (IsProper root) (IsProper root) old.token (IsOnName temp) Inv Inv s own none (λ inv. inv)

      cut : (s : State) (own : Option Move) → own ≡ Some (Remove temp) → TakeTurn old.token temp root Inv s own
      cut s own just =
          own_step (IsProper root) (IsProper root) old.token (IsOnName temp) Inv Inv s own (Remove temp) just (on_remove temp)
          (λ inv may. let proper = always_remove root old.token s temp (inr (x, old.token, is_temp)) in (proper, λ given. keeps s inv may proper))

      owns : (r' : Taken) (s : State) (own : Option Move) → TakesAway temp r' s own → TakeTurn old.token temp root Inv s own
      owns taken.Away s own (inl none) = still s own none.1
      owns taken.Away s own (inr just) = cut s own just
      owns taken.Fault s own (inl none) = still s own none
      owns taken.Fault s own (inr just) = cut s own just
      owns taken.NoMemory s own (inl none) = still s own none
      owns taken.NoMemory s own (inr just) = cut s own just

  pub take_called : (r : Taken) → Call old new (TakesAway temp r) → CallsOn temp (IsOnName temp) IsTidy IsTidy old new
  take_called r call root x is_temp =
      take_keeps r call root x is_temp (IsTidy root) (carried_stable (IsProper root) old.token (IsTidy root) (tidy_carried root)) (λ s tidy may proper. tidy_carried root old.token s (Remove temp) may proper tidy)

  pub take_anywhere : (r : Taken) → Call old new (TakesAway temp r) → CallsOn temp (IsOnName temp) (λ root. Anywhere) (λ root. Anywhere) old new
  take_anywhere r call root x is_temp = take_keeps r call root x is_temp Anywhere (always_stable (IsProper root) old.token) (λ s inv may proper. tt)

  -- the name was taken, and nothing was done
  pub taken_first : Call old new (λ s own. IsSome (place_at s temp) × (own ≡ None)) → CallsOn temp (IsOnName temp) IsTidy IsTidy old new
  taken_first call root x is_temp =
      turn_called (IsProper root) (IsProper root) (IsOnName temp) (IsTidy root) (IsTidy root) (λ s own. IsSome (place_at s temp) × (own ≡ None)) old new (carried_stable (IsProper root) old.token (IsTidy root) (tidy_carried root)) same call
      (λ s own gives. own_still (IsProper root) (IsProper root) old.token (IsOnName temp) (IsTidy root) (IsTidy root) s own gives.1 (λ tidy. tidy))

-- ---- what the name names

pub make_named : (temp : PathView) (old new : FolderView) (r : TempFile) → Call old new (MakesFile temp new.opens r) → TempNamed temp r new
make_named temp old new (temp_file.File number) call = λ file is.
    let others = call.others in
    let gives = call.answer in
    let at : state new ≡ after (run (state old) others) (old.token, Create temp gives.node) =
    now_went old new (others ++ own_event old.token call.own) (went_call old new (MakesFile temp new.opens (temp_file.File number)) call)
    ∙ run-append (state old) others (own_event old.token call.own)
    ∙ ap (λ o. run (run (state old) others) (own_event old.token o)) gives.move_is in
    let same = one_file (new.opens number.0) (record { node = gives.node; made = true }) file gives.is_open is in
    ap (λ s. place_at s temp) at ∙ created_here (run (state old) others) old.token temp gives.node ∙ ap (λ (f : OpenFile). Some (File f.node)) same
make_named temp old new temp_file.Skipped call = tt
make_named temp old new temp_file.Fault call = tt
make_named temp old new temp_file.NoMemory call = tt

-- then a second call
pub calls_then : (temp : PathView) (Kinds : Move → Type 0) (Pre Mid Post : PathView → State → Type 0) (old mid new : FolderView) → mid.token ≡ old.token → CallsOn temp Kinds Pre Mid old mid → CallsOn temp Kinds Mid Post mid new → CallsOn temp Kinds Pre Post old new
calls_then temp Kinds Pre Mid Post old mid new same a b root x is_temp =
    then_called (IsProper root) (IsProper root) Kinds (Pre root) (Mid root) (Post root) old mid new (a root x is_temp) (b root x (subst (λ (u : List ℕ). IsTemp root x u temp) (sym same) is_temp))

-- forget what holds at the end
pub calls_end : (temp : PathView) (Kinds : Move → Type 0) (Pre Post : PathView → State → Type 0) (old new : FolderView) → CallsOn temp Kinds Pre Post old new → CallsOn temp Kinds Pre (λ root. Anywhere) old new
calls_end temp Kinds Pre Post old new a root x is_temp =
    called_for (IsProper root) (IsProper root) Kinds Kinds (Pre root) (Pre root) (Post root) Anywhere old new (λ m is. is) (λ s pre. pre) (λ s post. tt) (a root x is_temp)

-- ---- causes

taken_own : (token : List ℕ) (temp : PathView) (own : Option Move) → (own ≡ None) ⊎ (own ≡ Some (Remove temp)) → OwnMoves token (IsOnName temp) (own_event token own)
unfolding OwnMoves
taken_own token temp own (inl none) = subst (λ o. OwnMoves token (IsOnName temp) (own_event token o)) (sym none) tt
taken_own token temp own (inr just) = subst (λ o. OwnMoves token (IsOnName temp) (own_event token o)) (sym just) (λ mine. on_remove temp, tt)

-- the moves of a call whose own moves are of these kinds
call_moves : (Kinds : Move → Type 0) (old new : FolderView) (Answer : State → Option Move → Type 0) → new.token ≡ old.token → (call : Call old new Answer) → OwnMoves old.token Kinds (own_event old.token call.own) → Moves Kinds old new
call_moves Kinds old new Answer same call own =
    moves_by Kinds old new (call.others ++ own_event old.token call.own) same (went_call old new Answer call)
    (OwnMoves-append old.token Kinds call.others (own_event old.token call.own) (foreign_own old.token Kinds call.others call.foreign) own)

-- a call that made none
pub still_moves : (old new : FolderView) (Answer : State → Option Move → Type 0) → new.token ≡ old.token → (call : Call old new Answer) → call.own ≡ None → Moves (λ m. ⊥) old new
unfolding OwnMoves
still_moves old new Answer same call none = call_moves (λ m. ⊥) old new Answer same call (subst (λ o. OwnMoves old.token (λ m. ⊥) (own_event old.token o)) (sym none) tt)

nothing_apart : (x : PathView) → IsApart (λ m. ⊥) x
nothing_apart x m no_move touch = no_move

module _ (temp : PathView) where
  abbrev Uses : PathView → Type 0
  Uses = UsesFile temp

  -- a name that was free and is taken where the next call answers
  newly_taken : (old mid new : FolderView) → Moves (λ m. ⊥) old mid → (Answer : State → Option Move → Type 0) (call : Call mid new Answer) → place_at (state old) temp ≡ None → IsSome (place_at (run (state mid) call.others) temp) → TouchedByOther old.token Uses (moved old new)
  newly_taken old mid new moves Answer call free some =
      ⊎_elim
      (λ (same : place_at (run (state mid) call.others) temp ≡ place_at (state old) temp). absurd (true≢false (sym some ∙ ap is_some (same ∙ free))))
      (λ t. t)
      (until_answer Uses (λ m. ⊥) temp (inl refl) (nothing_apart temp) old mid new moves Answer call)

  -- the first attempt found no parent
  pub missed_first : (old new : FolderView) (call : Call old new (λ s own. (has_parent s temp ≡ false) × (own ≡ None))) → has_parent (state old) temp ≡ true → TouchedByOther old.token Uses (moved old new)
  missed_first old new call was =
      lost_parent Uses (IsOnName temp) temp (inr refl) (on_name_apart temp (parent temp) (parent_apart temp (parent_free (state old) temp was))) old old new (moves_none (IsOnName temp) old) (λ s own. (has_parent s temp ≡ false) × (own ≡ None)) call was call.answer.0

  module _ (old mid new : FolderView) (same : mid.token ≡ old.token) (same' : new.token ≡ mid.token) (take : Call old mid (TakesAway temp taken.Away)) (make : Call mid new (MakesFile temp new.opens temp_file.Skipped)) where
    abbrev took : Trace
    took = take.others ++ own_event old.token take.own

    took_went : Went old mid took
    took_went = went_call old mid (TakesAway temp taken.Away) take

    took_goes : GoesOn old mid
    took_goes = goes_call old mid (TakesAway temp taken.Away) same take

    made_goes : GoesOn mid new
    made_goes = goes_call mid new (MakesFile temp new.opens temp_file.Skipped) same' make

    take_none : (o : Option Move) → TakesAway temp taken.Away (run (state old) take.others) o → (o ≡ None) ⊎ (o ≡ Some (Remove temp))
    take_none o (inl none) = inl none.1
    take_none o (inr just) = inr just

    -- the name was taken away: it is free before the second attempt
    away_then : take.own ≡ Some (Remove temp) → IsSome (place_at (run (state mid) make.others) temp) → TouchedByOther old.token Uses (moved old new)
    away_then just some =
        let at : state mid ≡ after (run (state old) take.others) (old.token, Remove temp) =
        now_went old mid took took_went ∙ run-append (state old) take.others (own_event old.token take.own) ∙ ap (λ o. run (run (state old) take.others) (own_event old.token o)) just in
        touched_later Uses old mid new took_goes made_goes
        (newly_taken mid mid new (moves_none (λ m. ⊥) mid) (MakesFile temp new.opens temp_file.Skipped) make (ap (λ s. place_at s temp) at ∙ removed_here (run (state old) take.others) old.token temp) some)

    -- the name named no file at the taking away, and no folder at the entry
    none_then : is_folder (state old) temp ≡ false → is_file (run (state old) take.others) temp ≡ false → take.own ≡ None → IsSome (place_at (run (state mid) make.others) temp) → TouchedByOther old.token Uses (moved old new)
    none_then no_folder no_file none some =
        ⊎_elim
        (λ (stays : place_at (run (state old) take.others) temp ≡ place_at (state old) temp).
        newly_taken old mid new (still_moves old mid (TakesAway temp taken.Away) same take none) (MakesFile temp new.opens temp_file.Skipped) make
        (place_none (place_at (state old) temp) no_folder (sym (file_as (state old) (run (state old) take.others) temp stays) ∙ no_file)) some)
        (λ (t : TouchedByOther old.token Uses (moved old mid)). touched_sooner Uses old mid new took_goes made_goes t)
        (until_answer Uses (λ m. ⊥) temp (inl refl) (nothing_apart temp) old old mid (moves_none (λ m. ⊥) old) (TakesAway temp taken.Away) take)

    pub missed_again : is_folder (state old) temp ≡ false → has_parent (state old) temp ≡ true → TouchedByOther old.token Uses (moved old new)
    missed_again no_folder was = elim make.answer.0 [
      | inl some ↦ elim take.answer [ inl none ↦ none_then no_folder none.0 none.1 some | inr just ↦ away_then just some ]
      | inr gone ↦ lost_parent Uses (IsOnName temp) temp (inr refl) (on_name_apart temp (parent temp) (parent_apart temp (parent_free (state old) temp was))) old mid new
          (call_moves (IsOnName temp) old mid (TakesAway temp taken.Away) same take (taken_own old.token temp take.own (take_none take.own take.answer)))
          (MakesFile temp new.opens temp_file.Skipped) make was gone
    ]

  -- the name was taken at the first attempt, and what followed was skipped
  pub missed_later : (old mid new : FolderView) → mid.token ≡ old.token → (first : Call old mid (λ s own. IsSome (place_at s temp) × (own ≡ None))) → GoesOn mid new → (is_folder (state mid) temp ≡ false → has_parent (state mid) temp ≡ true → TouchedByOther mid.token Uses (moved mid new)) → is_folder (state old) temp ≡ false → has_parent (state old) temp ≡ true → TouchedByOther old.token Uses (moved old new)
  missed_later old mid new same first goes later no_folder was =
      let moves = still_moves old mid (λ s own. IsSome (place_at s temp) × (own ≡ None)) same first first.answer.1 in
      let sooner : TouchedByOther old.token Uses (moved old mid) → TouchedByOther old.token Uses (moved old new) = touched_sooner Uses old mid new moves.went goes in
      ⊎_elim
      (λ (stays : place_at (state mid) temp ≡ place_at (state old) temp).
      ⊎_elim
      (λ (up : place_at (state mid) (parent temp) ≡ place_at (state old) (parent temp)).
      touched_later Uses old mid new moves.went goes
      (later (folder_as (state old) (state mid) temp stays ∙ no_folder) (parent_as (state old) (state mid) temp up ∙ was)))
      sooner
      (until_end Uses (λ m. ⊥) (parent temp) (inr refl) (nothing_apart (parent temp)) old mid moves))
      sooner
      (until_end Uses (λ m. ⊥) temp (inl refl) (nothing_apart temp) old mid moves)
