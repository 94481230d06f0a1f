-- What a look tells beside runs whose steps are proper.
use Rattle.std.proofs.Common.{◌≡◌, inl, inr, ℕ, ◌≤◌, true, false, List, ◌++◌, length, Option, None, Some, option_map, refl, sym, ap, subst, ◌∙◌, append-nil, true≢false}
use Rattle.std.specs.Option.{option_map_or}
use Rattle.jl_text.specs.Paths.{PathView}
use Rattle.jl_value.specs.Tree.{Tree}
use Rattle.jl_value.specs.Form.{tree_of}
use Rattle.jl_value.specs.Library.{value}
use Rattle.jl_folder.specs.declared.moves.Place.{Place}
use Rattle.jl_folder.specs.declared.moves.Place.TheVariants.{Folder, File}
use Rattle.jl_folder.specs.State.{State, Trace, AtSome, IsTrace, place_at, is_file, is_file_place, bytes_at, bytes_of, run}
use Rattle.jl_folder.specs.Views.{FolderView, state, moved}
use Rattle.jl_folder.proofs.Traces.{run-append}
use Rattle.jl_folder.specs.Reading.{OpenedHas}
use Rattle.jl_entry.specs.Names.{Final, IsFinal}
use Rattle.jl_entry.specs.Entry.{IsEntry, IsEntryOf, IsOther}
use Rattle.jl_entry.proofs.Entries.{entry_once}
use Rattle.jl_rely.specs.Steps.{AllSteps}
use Rattle.jl_rely.proofs.Traces.{IsTrace-left, IsTrace-right, AllSteps-left, AllSteps-right, AllSteps-weaken, carried}
use Rattle.jl_protocol.specs.Whole.{most_bytes, CodeAnswers, IsWhole, IsTruthful}
use Rattle.jl_protocol.specs.Owned.{IsKept}
use Rattle.jl_protocol.specs.Proper.{IsProper, IsLawful}
use Rattle.jl_protocol.specs.Tidy.{IsTidy}
use Rattle.jl_protocol.proofs.Before.{one_value}
use Rattle.jl_protocol.proofs.Kills.{tidy_at_end, sound_at_end}
use Rattle.jl_protocol.proofs.Keeping.{kept_at, kept_carried}
use Rattle.jl_store.specs.declared.found.Look.{Look}
use Rattle.jl_store.specs.declared.found.Look.TheVariants as look
use Rattle.jl_store.specs.declared.memory.WarnKind.TheVariants.{LoadFault, NotMine, Damaged}
use Rattle.jl_store.specs.declared.memory.Warning.{Warning}
use Rattle.jl_store.specs.Asked.{Asked, output_of, output_asked}
use Rattle.jl_store.specs.Looking.{IsStored, IsReadable, StandsWith, HasEntryOf, Missing, absent, failed, other, damaged, warnings_for, IsMissing, LooksUp, LooksTidy, IsAnswered}
use Rattle.jl_store.specs.Trust.{IsTrusted}
use Rattle.jl_store.specs.Warned.{IsOrderly}
use Rattle.jl_store.proofs.LookLemmas.{kind_same, one_more}

-- a path with bytes names a file
bytes_file : (s : State) (p : PathView) (bytes : List ℕ) → bytes_at s p ≡ Some bytes → is_file s p ≡ true
bytes_file s p bytes e =
    elim (place_at s p) as (λ (o : Option Place). bytes_of s o ≡ Some bytes → option_map_or is_file_place o false ≡ true) [
      | None ↦ λ h. cc
      | Some k ↦ elim k as (λ (j : Place). bytes_of s (Some j) ≡ Some bytes → option_map_or is_file_place (Some j) false ≡ true) [ Folder ↦ λ h. cc | File n ↦ λ h. refl ]
    ] e

module _ (root : PathView) (x : Final) (path : PathView) (final : IsFinal root x path) (s : State) (moves : Trace) (may : IsTrace s moves) where
  -- the file that was opened: its bytes have P, the path had them at that step, and they are whole
  module _ (tidy : IsTidy root s) (all : AllSteps (IsProper root) s moves) (P : List ℕ → Type 0) (opened : OpenedHas path P s moves) where
    abbrev then' : State
    then' = run s opened.before

    may_split : IsTrace s (opened.before ++ (opened.middle ++ opened.later))
    may_split = subst (IsTrace s) opened.split may

    all_split : AllSteps (IsProper root) s (opened.before ++ (opened.middle ++ opened.later))
    all_split = subst (AllSteps (IsProper root) s) opened.split all

    tidy_then : IsTidy root then'
    tidy_then =
        tidy_at_end root s opened.before (IsTrace-left s opened.before (opened.middle ++ opened.later) may_split)
        (AllSteps-left (IsProper root) s opened.before (opened.middle ++ opened.later) all_split) tidy

    -- the bytes that the file had, and has from there on
    kept_then : (bytes : List ℕ) × IsKept root opened.node bytes then' × IsWhole x bytes
    kept_then = kept_at root x path opened.node then' tidy_then final opened.named

    kept_later : IsKept root opened.node kept_then.0 (run s (opened.before ++ opened.middle))
    kept_later =
        subst (IsKept root opened.node kept_then.0) (sym (run-append s opened.before opened.middle))
        (carried (IsKept root opened.node kept_then.0) (IsProper root) (kept_carried root opened.node kept_then.0) then' opened.middle
        (IsTrace-left then' opened.middle opened.later (IsTrace-right s opened.before (opened.middle ++ opened.later) may_split))
        (AllSteps-left (IsProper root) then' opened.middle opened.later (AllSteps-right (IsProper root) s opened.before (opened.middle ++ opened.later) all_split)) kept_then.1)

    same_bytes : opened.view.bytes ≡ kept_then.0
    same_bytes = ap (λ v. v.bytes) (one_value _ opened.view kept_later.node opened.node_is kept_later.is) ∙ kept_later.same

    pub opened_whole : P opened.view.bytes × IsWhole x opened.view.bytes
    opened_whole = (opened.has, subst (IsWhole x) (sym same_bytes) kept_then.2)

    pub opened_bytes : bytes_at then' path ≡ Some opened.view.bytes
    opened_bytes =
        ap (bytes_of then') opened.named ∙ ap (option_map (λ v. v.bytes)) kept_then.1.is ∙ ap (λ (b : List ℕ). Some b) (kept_then.1.same ∙ sym same_bytes)

    -- so at that step the path had such bytes
    pub opened_then : (Q : State → Type 0) → ((u : State) → bytes_at u path ≡ Some opened.view.bytes → Q u) → AtSome s moves Q
    opened_then Q q = (opened.before, opened.middle ++ opened.later, opened.split, q then' opened_bytes)

module _ (a : Asked) (final : IsFinal a.root (output_of a.module_name a.function_name a.args) (output_asked a)) (old new : FolderView) (may : IsTrace (state old) (moved old new)) (ws ws' : List Warning) (told : old.told) where
  abbrev x : Final
  x = output_of a.module_name a.function_name a.args

  abbrev path : PathView
  path = output_asked a

  abbrev s : State
  s = state old

  abbrev moves : Trace
  moves = moved old new

  misses_tidy : (why : Missing) → ws' ≡ ws ++ warnings_for why a.function_name a.args → IsMissing why a old new → IsOrderly a.root old new → LooksTidy look.Miss a ws ws' old new
  unfolding IsWhole
  misses_tidy absent warns missing (tidy, all) =
      let at = missing told in (
        inl (at.0, at.1, at.2, λ stands. true≢false (sym (bytes_file _ path stands.1.0 stands.1.1) ∙ at.3)),
        λ e. one_more ws _ (sym (warns ∙ append-nil ws) ∙ e),
      )
  misses_tidy failed warns missing (tidy, all) = (inr missing, λ e. let k : LoadFault ≡ Damaged = kind_same ws _ _ (sym warns ∙ e) in cc)
  misses_tidy other warns missing (tidy, all) =
      let opened = missing told in
      let P : List ℕ → Type 0 = λ b. (length b ≤ most_bytes) × IsOther b a.code a.args in
      let whole = opened_whole a.root x path final s moves may tidy all P opened in (
        inl (opened_then a.root x path final s moves may tidy all P opened (λ u. HasEntryOf path a.code a.args u → ⊥)
            (λ u has stands. whole.0.1.1 stands.0 (subst (λ b. IsEntryOf b a.code a.args stands.0) (one_value _ _ _ stands.1.1 has) stands.1.2.1))),
        λ e. let k : NotMine ≡ Damaged = kind_same ws _ _ (sym warns ∙ e) in cc,
      )
  misses_tidy damaged warns missing (tidy, all) =
      let opened = missing told in
      let whole = opened_whole a.root x path final s moves may tidy all (λ b. IsReadable b → ⊥) opened in
      let entry : IsEntry opened.view.bytes = (whole.1.1.0, whole.1.1.1, whole.1.1.2, whole.1.1.4) in
      absurd (whole.0 (whole.1.0, entry))

  pub looks_tidy : (r : Look) → LooksUp r a ws ws' old new → IsOrderly a.root old new → LooksTidy r a ws ws' old new
  looks_tidy (look.Hit v) looks (tidy, all) =
      let opened = looks.1 told in
      let P : List ℕ → Type 0 = λ b. IsStored b a.code a.args (tree_of v) in
      let whole = opened_whole a.root x path final s moves may tidy all P opened in
      opened_then a.root x path final s moves may tidy all P opened (StandsWith path a.code a.args (tree_of v)) (λ u has. (opened.view.bytes, has, whole.0))
  looks_tidy look.Miss looks orderly = misses_tidy looks.0 looks.1 looks.2 orderly
  looks_tidy look.NoMemory looks orderly = tt

pub looks_sound : (a : Asked) (final : IsFinal a.root (output_of a.module_name a.function_name a.args) (output_asked a)) (old new : FolderView) (may : IsTrace (state old) (moved old new)) (ws ws' : List Warning) (r : Look) → LooksUp r a ws ws' old new → (answer : CodeAnswers) → IsTrusted a.root answer old new → IsAnswered r answer a.code a.args
unfolding IsTruthful
looks_sound a final old new may ws ws' (look.Hit v) looks answer (told, sound, all) =
    let s = state old in
    let moves = moved old new in
    let x = output_of a.module_name a.function_name a.args in
    let path = output_asked a in
    let opened = looks.1 told in
    let P : List ℕ → Type 0 = λ b. IsStored b a.code a.args (tree_of v) in
    let proper = AllSteps-weaken (IsLawful a.root answer) (IsProper a.root) (λ t u m lawful. lawful.0) s moves all in
    let whole = opened_whole a.root x path final s moves may sound.tidy proper P opened in
    let kept = kept_then a.root x path final s moves may sound.tidy proper P opened in
    let rest = opened.middle ++ opened.later in
    let may_split : IsTrace s (opened.before ++ rest) = subst (IsTrace s) opened.split may in
    let all_split : AllSteps (IsLawful a.root answer) s (opened.before ++ rest) = subst (AllSteps (IsLawful a.root answer) s) opened.split all in
    let sound_then = sound_at_end a.root answer s opened.before (IsTrace-left s opened.before rest may_split) (AllSteps-left (IsLawful a.root answer) s opened.before rest all_split) sound in
    let truth = sound_then.truthful x path final opened.node kept.1.node opened.named kept.1.is in
    let stored = subst (λ (b : List ℕ). IsEntryOf b a.code a.args (tree_of v)) (same_bytes a.root x path final s moves may sound.tidy proper P opened ∙ sym kept.1.same) whole.0.1 in
    let same = entry_once kept.1.node.bytes truth.0 a.code truth.1 a.args truth.2 (tree_of v) truth.4 stored in
    sym (λ i. answer (same.0 i) (same.1 i)) ∙ truth.3 ∙ ap (λ (t : Tree). value t) same.2
looks_sound a final old new may ws ws' look.Miss looks answer trust = tt
looks_sound a final old new may ws ws' look.NoMemory looks answer trust = tt
