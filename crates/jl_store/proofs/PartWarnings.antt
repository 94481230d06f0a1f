-- Why the parts of a cached call warn.
use Rattle.std.proofs.Common.{◌≡◌, ◌⊎◌, inl, inr, ℕ, List, ◌++◌, refl, subst, ◌∙◌}
use Rattle.jl_text.specs.Counts.{Rose}
use Rattle.jl_text.specs.Paths.{PathView}
use Rattle.jl_folder.specs.State.{State, Trace}
use Rattle.jl_folder.specs.Views.{FolderView, state, moved}
use Rattle.jl_value.specs.Key.{key_of}
use Rattle.jl_value.specs.declared.key.Key.{Key}
use Rattle.jl_entry.specs.declared.names.EntryFile.TheVariants.{Access}
use Rattle.jl_rely.specs.Touches.{TouchedByOther}
use Rattle.jl_rely.proofs.Touched.{touched_as}
use Rattle.jl_store.specs.Asked.{Asked}
use Rattle.jl_store.specs.Looking.{Missing, absent, failed, other, damaged, warnings_for, IsMissing, LooksUp, LooksTidy}
use Rattle.jl_store.specs.Next.{entry_asked}
use Rattle.jl_store.specs.Warned.{IsOrderly, UsesCall}
use Rattle.jl_store.specs.Parts.{AreWarned, IsCausedFrom, WarnsFrom, keep_warns, check_warns}
use Rattle.jl_store.specs.declared.answer.Keep.{Keep}
use Rattle.jl_store.specs.declared.answer.Keep.TheVariants as keep
use Rattle.jl_store.specs.declared.checks.CodeCheck.{CodeCheck}
use Rattle.jl_store.specs.declared.checks.CodeCheck.TheVariants as check
use Rattle.jl_store.specs.declared.found.Look.{Look}
use Rattle.jl_store.specs.declared.found.Look.TheVariants as look
use Rattle.jl_store.specs.declared.memory.WarnKind.{WarnKind}
use Rattle.jl_store.specs.declared.memory.Warning.{Warning}
use Rattle.jl_store.specs.Kinds.{UsesNames}
use Rattle.jl_store.specs.Keeping.{UsesEntry, last_of, temp_of}
use Rattle.jl_store.proofs.EntryNames.{last_parent}
use Rattle.jl_store.proofs.Causing.{warned_none, warned_one, warns_none}

-- ---- the names that a part uses are the call's

module _ (a : Asked) (token : List ℕ) (same : token ≡ a.token) (xs : Trace) where
  -- of the last access
  touch_names : (p : PathView) → UsesNames (last_of (entry_asked a) Access) (temp_of (entry_asked a) a.token Access) p → UsesCall a p
  touch_names p (inl e) = inr (inl (Access, inl e))
  touch_names p (inr (inl e)) = inr (inl (Access, inr e))
  touch_names p (inr (inr e)) = inr (inr (inl (e ∙ last_parent (entry_asked a) Access)))

  pub touch_used : TouchedByOther token (UsesNames (last_of (entry_asked a) Access) (temp_of (entry_asked a) token Access)) xs → TouchedByOther a.token (UsesCall a) xs
  touch_used t =
      touched_as a.token (UsesNames (last_of (entry_asked a) Access) (temp_of (entry_asked a) a.token Access)) (UsesCall a) touch_names xs
      (subst (λ (u : List ℕ). TouchedByOther u (UsesNames (last_of (entry_asked a) Access) (temp_of (entry_asked a) u Access)) xs) same t)

  -- of the entry
  pub keep_used : TouchedByOther token (UsesEntry (entry_asked a) token) xs → TouchedByOther a.token (UsesCall a) xs
  keep_used t =
      touched_as a.token (UsesEntry (entry_asked a) a.token) (UsesCall a) (λ p u. inr u) xs
      (subst (λ (u : List ℕ). TouchedByOther u (UsesEntry (entry_asked a) u) xs) same t)

module _ (a : Asked) (Ready : State → Type 0) (old new : FolderView) where
  abbrev Caused : WarnKind → Type 0
  Caused kind = IsCausedFrom Ready kind a old new

  -- why a part was skipped
  abbrev pub Why : Type 0
  Why = old.told → IsOrderly a.root old new → Ready (state old) → TouchedByOther a.token (UsesCall a) (moved old new)

  pub keep_warned : (k : Keep) (key : Key) → key.0 ≡ key_of a.args → (k ≡ keep.Skipped → Why) → (k ≡ keep.Fault → Rose old.faults new.faults) → AreWarned Caused a.function_name (key_of a.args) (keep_warns k a.function_name key)
  keep_warned keep.Kept key keyed skipped rose = warned_none Caused a.function_name (key_of a.args)
  keep_warned keep.Skipped key keyed skipped rose = warned_one Caused a.function_name (key_of a.args) _ refl keyed (λ t orderly ready. inl (skipped refl t orderly ready))
  keep_warned keep.Fault key keyed skipped rose = warned_one Caused a.function_name (key_of a.args) _ refl keyed (rose refl)
  keep_warned keep.NoMemory key keyed skipped rose = warned_none Caused a.function_name (key_of a.args)

  pub check_warned : (c : CodeCheck) (key : Key) → key.0 ≡ key_of a.args → (c ≡ check.Skipped → Why) → ((c ≡ check.LoadFault) ⊎ (c ≡ check.StoreFault) → Rose old.faults new.faults) → AreWarned Caused a.function_name (key_of a.args) (check_warns c a.function_name key)
  check_warned check.Same key keyed skipped rose = warned_none Caused a.function_name (key_of a.args)
  check_warned check.Written key keyed skipped rose = warned_none Caused a.function_name (key_of a.args)
  check_warned check.Cleared key keyed skipped rose = warned_none Caused a.function_name (key_of a.args)
  check_warned check.Skipped key keyed skipped rose = warned_one Caused a.function_name (key_of a.args) _ refl keyed (λ t orderly ready. inl (skipped refl t orderly ready))
  check_warned check.LoadFault key keyed skipped rose = warned_one Caused a.function_name (key_of a.args) _ refl keyed (rose (inl refl))
  check_warned check.StoreFault key keyed skipped rose = warned_one Caused a.function_name (key_of a.args) _ refl keyed (rose (inr refl))
  check_warned check.NoMemory key keyed skipped rose = warned_none Caused a.function_name (key_of a.args)

  -- ---- a look

  module _ (ws ws' : List Warning) where
    missing_warned : (why : Missing) → ws' ≡ ws ++ warnings_for why a.function_name a.args → IsMissing why a old new
        → (old.told → IsOrderly a.root old new → LooksTidy look.Miss a ws ws' old new)
        → AreWarned Caused a.function_name (key_of a.args) (warnings_for why a.function_name a.args)
    missing_warned absent e missing tidy = warned_none Caused a.function_name (key_of a.args)
    missing_warned failed e missing tidy = warned_one Caused a.function_name (key_of a.args) _ refl refl missing
    missing_warned other e missing tidy = warned_one Caused a.function_name (key_of a.args) _ refl refl missing
    missing_warned damaged e missing tidy = warned_one Caused a.function_name (key_of a.args) _ refl refl (missing, λ t orderly. (tidy t orderly).1 e)

    pub look_warns : (r : Look) → LooksUp r a ws ws' old new → (old.told → IsOrderly a.root old new → LooksTidy r a ws ws' old new) → WarnsFrom Ready a ws ws' old new
    look_warns (look.Hit v) looks tidy = warns_none a Ready ws ws' old new looks.0
    look_warns look.Miss looks tidy = (warnings_for looks.0 a.function_name a.args, looks.1, missing_warned looks.0 looks.1 looks.2 tidy)
    look_warns look.NoMemory looks tidy = warns_none a Ready ws ws' old new looks
