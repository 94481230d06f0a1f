-- A part of a call was done or warned of, and what it did stands in the whole.
use Rattle.std.proofs.Common.{◌≡◌, ◌≢◌, ◌⊎◌, inl, inr, ℕ, List, [], ◌∷◌, ◌++◌, false, refl, sym, ap, subst, ◌∙◌, append_assoc}
use Rattle.jl_folder.specs.declared.moves.Move.TheVariants.{Rename}
use Rattle.jl_folder.specs.State.{Event, Trace, is_file}
use Rattle.jl_folder.specs.Views.{FolderView, state, moved}
use Rattle.jl_value.specs.declared.key.Key.{Key}
use Rattle.jl_value.specs.declared.value.Value.{Value}
use Rattle.jl_value.specs.Library.{Answer}
use Rattle.jl_entry.specs.declared.names.EntryFile.{EntryFile}
use Rattle.jl_entry.specs.declared.names.EntryFile.TheVariants.{Output, Metadata, Access}
use Rattle.jl_rely.specs.Claims.{GoesOn}
use Rattle.jl_rely.proofs.Since.{moved_then}
use Rattle.jl_store.specs.Asked.{Asked, output_asked}
use Rattle.jl_store.specs.Publishing.{EndsIn}
use Rattle.jl_store.specs.Checking.{Checks, IsOfCode, function_path, code_path, code_temp}
use Rattle.jl_store.specs.Keeping.{Includes, HasPut, HasPutAll, last_of, temp_of}
use Rattle.jl_store.specs.Looking.{Missing, absent, failed, other, damaged, warnings_for, IsMissing}
use Rattle.jl_store.specs.Next.{entry_asked}
use Rattle.jl_store.specs.Parts.{keep_warns, check_warns}
use Rattle.jl_store.specs.Cached.{IsMissed}
use Rattle.jl_store.specs.Done.{OfCode, OfLook, OfKeeping, HasCode, HadNoOutput, LookDone, KeptDone, DoneOrWarned, PartsDone, HasDoneBut, DoesOrWarns, PartDone, KeepsOrWarns, AnswerDone, AnswersOrWarns}
use Rattle.jl_store.specs.declared.answer.Keep.{Keep}
use Rattle.jl_store.specs.declared.answer.Keep.TheVariants as keep
use Rattle.jl_store.specs.declared.checks.CodeCheck.{CodeCheck}
use Rattle.jl_store.specs.declared.checks.CodeCheck.TheVariants as check
use Rattle.jl_store.specs.declared.cached.Cached.{Cached}
use Rattle.jl_store.specs.declared.cached.Cached.TheVariants.{Hit, Computed, Error, NoMemory}
use Rattle.jl_store.specs.declared.memory.WarnKind.{WarnKind}
use Rattle.jl_store.specs.declared.memory.Warning.{Warning}
use Rattle.jl_store.proofs.Causing.{opened_sooner, at_sooner, opened_later, at_later}
use Rattle.jl_store.proofs.KeepFacts.{includes_left, includes_right}

-- ---- one part

-- what it did gives this
part_as : (Kind : WarnKind → Type 0) (done done' : Type 0) → (done → done') → (ws : List Warning) → DoneOrWarned Kind done ws → DoneOrWarned Kind done' ws
part_as Kind done done' go [] part = go part
part_as Kind done done' go (w ∷ []) part = part
part_as Kind done done' go (w ∷ v ∷ ws) part = part

pub kept_done : (done : Type 0) (k : Keep) (f : List ℕ) (key : Key) → k ≢ keep.NoMemory → (k ≡ keep.Kept → done) → DoneOrWarned OfKeeping done (keep_warns k f key)
kept_done done keep.Kept f key memory put = put refl
kept_done done keep.Skipped f key memory put = tt
kept_done done keep.Fault f key memory put = tt
kept_done done keep.NoMemory f key memory put = absurd (memory refl)

pub looked_done : (a : Asked) (old new : FolderView) (why : Missing) → IsMissing why a old new → old.told → DoneOrWarned OfLook (HadNoOutput a (state old) (moved old new)) (warnings_for why a.function_name a.args)
looked_done a old new absent missing told = missing told
looked_done a old new failed missing told = tt
looked_done a old new other missing told = tt
looked_done a old new damaged missing told = tt

-- what a call of the function has put in place
module _ (a : Asked) (moves : Trace) where
  pub computed_done : (r : Cached) (v : Value) (ws ws' : List Warning) → (r ≡ Computed v) ⊎ (r ≡ NoMemory) → (r ≡ Computed v → PartDone OfKeeping (HasPutAll (entry_asked a) a.token moves) ws ws') → KeepsOrWarns r a moves ws ws'
  computed_done r v ws ws' (inl e) put = subst (λ (k : Cached). KeepsOrWarns k a moves ws ws') (sym e) (put e)
  computed_done r v ws ws' (inr e) put = subst (λ (k : Cached). KeepsOrWarns k a moves ws ws') (sym e) tt

-- what came last was done
ends_included : (step : Event) (steps : Trace) → EndsIn step steps → Includes step steps
ends_included step steps ends = (ends.0, [], ends.1)

module _ (a : Asked) (old new : FolderView) (mine : old.token ≡ a.token) where
  put_code : EndsIn (old.token, Rename (code_temp a.root a.module_name a.function_name a.token) (code_path a.root a.module_name a.function_name)) (moved old new) → HasCode a (state old) (moved old new)
  put_code ends =
      inr (subst (λ (u : List ℕ). Includes (u, Rename (code_temp a.root a.module_name a.function_name a.token) (code_path a.root a.module_name a.function_name)) (moved old new)) mine (ends_included _ (moved old new) ends))

  pub checked_done : (c : CodeCheck) (key : Key) → c ≢ check.NoMemory
      → Checks c (function_path a.root a.module_name a.function_name) (code_path a.root a.module_name a.function_name) (code_temp a.root a.module_name a.function_name a.token) a.code old new
      → DoneOrWarned OfCode (HasCode a (state old) (moved old new)) (check_warns c a.function_name key)
  checked_done check.Same key memory checks = inl checks.0
  checked_done check.Written key memory checks = put_code checks.1
  checked_done check.Cleared key memory checks = put_code checks.1
  checked_done check.Skipped key memory checks = tt
  checked_done check.LoadFault key memory checks = tt
  checked_done check.StoreFault key memory checks = tt
  checked_done check.NoMemory key memory checks = absurd (memory refl)

-- ---- the warnings of one part, and then those of the next

then_added : (ws ws1 ws2 more rest : List Warning) → ws1 ≡ ws ++ more → ws2 ≡ ws1 ++ rest → ws2 ≡ ws ++ (more ++ rest)
then_added ws ws1 ws2 more rest e e' = e' ∙ ap (λ (l : List Warning). l ++ rest) e ∙ append_assoc ws more rest

-- ---- a step of a part is one of the whole

module _ (a : Asked) (old mid new : FolderView) (first : GoesOn old mid) (second : GoesOn mid new) where
  included_sooner : (step : Event) → Includes step (moved old mid) → Includes step (moved old new)
  included_sooner step i = subst (λ (t : Trace). Includes step t) (sym (moved_then old mid new first second)) (includes_left step (moved old mid) (moved mid new) i)

  included_later : (step : Event) → Includes step (moved mid new) → Includes step (moved old new)
  included_later step i = subst (λ (t : Trace). Includes step t) (sym (moved_then old mid new first second)) (includes_right step (moved old mid) (moved mid new) i)

  put_later : (file : EntryFile) → HasPut (entry_asked a) a.token file (moved mid new) → HasPut (entry_asked a) a.token file (moved old new)
  put_later file put = included_later (a.token, Rename (temp_of (entry_asked a) a.token file) (last_of (entry_asked a) file)) put

  all_later : HasPutAll (entry_asked a) a.token (moved mid new) → HasPutAll (entry_asked a) a.token (moved old new)
  all_later put = (put_later Output put.0, put_later Metadata put.1, put_later Access put.2)

  kept_later : (r : Cached) (ws : List Warning) → KeptDone r a (moved mid new) ws → KeptDone r a (moved old new) ws
  kept_later (Hit v) ws part = part_as OfKeeping _ _ (put_later Access) ws part
  kept_later (Computed v) ws part = part_as OfKeeping _ _ all_later ws part
  kept_later (Error e) ws part = part
  kept_later NoMemory ws part = tt

  none_sooner : HadNoOutput a (state old) (moved old mid) → HadNoOutput a (state old) (moved old new)
  none_sooner none = at_sooner old mid new first second (λ s. is_file s (output_asked a) ≡ false) none

  none_later : HadNoOutput a (state mid) (moved mid new) → HadNoOutput a (state old) (moved old new)
  none_later none = at_later old mid new first second (λ s. is_file s (output_asked a) ≡ false) none

  looked_later : (r : Cached) (ws : List Warning) → LookDone r a (state mid) (moved mid new) ws → LookDone r a (state old) (moved old new) ws
  looked_later (Hit v) ws part = part
  looked_later (Computed v) ws part = part_as OfLook _ _ none_later ws part
  looked_later (Error e) ws part = part_as OfLook _ _ none_later ws part
  looked_later NoMemory ws part = tt

  code_sooner : HasCode a (state old) (moved old mid) → HasCode a (state old) (moved old new)
  code_sooner (inl opened) = inl (opened_sooner old mid new first second (code_path a.root a.module_name a.function_name) (IsOfCode a.code) opened)
  code_sooner (inr put) = inr (included_sooner (a.token, Rename (code_temp a.root a.module_name a.function_name a.token) (code_path a.root a.module_name a.function_name)) put)

  code_later : HasCode a (state mid) (moved mid new) → HasCode a (state old) (moved old new)
  code_later (inl opened) = inl (opened_later old mid new first second (code_path a.root a.module_name a.function_name) (IsOfCode a.code) opened)
  code_later (inr put) = inr (included_later (a.token, Rename (code_temp a.root a.module_name a.function_name a.token) (code_path a.root a.module_name a.function_name)) put)

  -- ---- the answer, after a look

  -- that found the value, and so warned of nothing
  pub found_done : (r : Cached) (v : Value) (ws ws1 ws2 : List Warning) → (r ≡ Hit v) ⊎ (r ≡ NoMemory) → ws1 ≡ ws → (r ≡ Hit v → PartDone OfKeeping (HasPut (entry_asked a) a.token Access (moved mid new)) ws1 ws2)
      → AnswersOrWarns r a (state old) (moved old new) ws ws2
  found_done r v ws ws1 ws2 (inl e) same put =
      let part = put e in
      subst (λ (k : Cached). AnswersOrWarns k a (state old) (moved old new) ws ws2) (sym e)
      (record {
        look = [];
        kept = part.0;
        parts = part.1 ∙ ap (λ (l : List Warning). l ++ part.0) same;
        look_part = refl;
        kept_part = kept_later (Hit v) part.0 part.2;
      })
  found_done r v ws ws1 ws2 (inr e) same put = subst (λ (k : Cached). AnswersOrWarns k a (state old) (moved old new) ws ws2) (sym e) tt

  -- that found none
  pub missed_done : (r : Cached) (b : Answer) (calls calls' : ℕ) → IsMissed r b calls calls' → (ws ws1 ws2 look : List Warning) → ws1 ≡ ws ++ look → DoneOrWarned OfLook (HadNoOutput a (state old) (moved old mid)) look → KeepsOrWarns r a (moved mid new) ws1 ws2
      → AnswersOrWarns r a (state old) (moved old new) ws ws2
  missed_done (Hit v) b calls calls' is ws ws1 ws2 look e looked part = absurd is
  missed_done (Computed v) b calls calls' is ws ws1 ws2 look e looked part = record {
    look = look;
    kept = part.0;
    parts = then_added ws ws1 ws2 look part.0 e part.1;
    look_part = part_as OfLook _ _ none_sooner look looked;
    kept_part = kept_later (Computed v) part.0 part.2;
  }
  missed_done (Error x) b calls calls' is ws ws1 ws2 look e looked part = record {
    look = look;
    kept = part.0;
    parts = then_added ws ws1 ws2 look part.0 e part.1;
    look_part = part_as OfLook _ _ none_sooner look looked;
    kept_part = kept_later (Error x) part.0 part.2;
  }
  missed_done NoMemory b calls calls' is ws ws1 ws2 look e looked part = tt

  -- ---- the whole call: the check of the code, and then the answer

  parts_done : (r : Cached) (ws ws1 ws2 code : List Warning) → ws1 ≡ ws ++ code → DoneOrWarned OfCode (HasCode a (state old) (moved old mid)) code → AnswerDone r a (state mid) (moved mid new) ws1 ws2
      → (added : List Warning) × (ws2 ≡ ws ++ added) × PartsDone r a (state old) (moved old new) added
  parts_done r ws ws1 ws2 code e checked answered = (
    code ++ (answered.look ++ answered.kept),
    then_added ws ws1 ws2 code (answered.look ++ answered.kept) e answered.parts,
    record {
      code = code;
      look = answered.look;
      kept = answered.kept;
      parts = refl;
      code_part = part_as OfCode _ _ code_sooner code checked;
      look_part = looked_later r answered.look answered.look_part;
      kept_part = kept_later r answered.kept answered.kept_part;
    },
  )

  pub all_done : (r : Cached) (ws ws1 ws2 code more : List Warning) → ws1 ≡ ws ++ code → ws2 ≡ ws1 ++ more → DoneOrWarned OfCode (HasCode a (state old) (moved old mid)) code
      → AnswersOrWarns r a (state mid) (moved mid new) ws1 ws2 → DoesOrWarns r a ws ws2 old new
  all_done (Hit v) ws ws1 ws2 code more e e' checked answered = parts_done (Hit v) ws ws1 ws2 code e checked answered
  all_done (Computed v) ws ws1 ws2 code more e e' checked answered = parts_done (Computed v) ws ws1 ws2 code e checked answered
  all_done (Error x) ws ws1 ws2 code more e e' checked answered = parts_done (Error x) ws ws1 ws2 code e checked answered
  all_done NoMemory ws ws1 ws2 code more e e' checked answered = (code ++ more, then_added ws ws1 ws2 code more e e', tt)

  -- a call that came after some moves
  parts_later : (r : Cached) (added : List Warning) → PartsDone r a (state mid) (moved mid new) added → PartsDone r a (state old) (moved old new) added
  parts_later r added done = record {
    code = done.code;
    look = done.look;
    kept = done.kept;
    parts = done.parts;
    code_part = part_as OfCode _ _ code_later done.code done.code_part;
    look_part = looked_later r done.look done.look_part;
    kept_part = kept_later r done.kept done.kept_part;
  }

  pub done_later : (r : Cached) (added : List Warning) → HasDoneBut r a (state mid) (moved mid new) added → HasDoneBut r a (state old) (moved old new) added
  done_later (Hit v) added done = parts_later (Hit v) added done
  done_later (Computed v) added done = parts_later (Computed v) added done
  done_later (Error e) added done = parts_later (Error e) added done
  done_later NoMemory added done = tt
