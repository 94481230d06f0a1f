-- A table's entries, by their texts.
use Rattle.std.proofs.Common.{◌≡◌, ℕ, suc, ◌+◌, ◌-◌, ◌<◌, List, [], ◌∷◌, Bool, true, false, not, cond, nat_lt, length, String, Global, string_bytes, Option, None, Some, sym, ◌∙◌, ap, subst, refl, arith}
use Rattle.std.specs.String.{string_eq}
use Rattle.std.specs.Str.{bytes_eq}
use Rattle.std.specs.Map.{lookup, remove_entry, keys_of}
use Rattle.std.specs.List.{position, position_or_len}
use Rattle.indexmap.specs.IndexMap.{insert_entry, set_value_at}
use Rattle.std.proofs.lemmas.Bool.Decides.{Decides-ltb}
use Rattle.jl_tracker.specs.declared.line.Kind.{Kind}
use Rattle.jl_tracker.specs.declared.line.Kind.TheVariants as kind
use Rattle.jl_tracker.specs.declared.table.Step.{Step}
use Rattle.jl_tracker.specs.declared.table.Step.TheVariants as step
use Rattle.jl_tracker.specs.Counting.{CountsView, entries_at, with_entries, count_in, Applies}
use Rattle.jl_tracker.specs.TrackerLines.{registers, unregisters, may_unlink}
use Rattle.jl_tracker.specs.Entries.{Entries, count_of, put, without, released, released_by, release_answer, drop_answer, Registers}
use Rattle.jl_tracker.specs.Views.{view_entries}

-- a text of the table is the name
abbrev pub is_name : List ℕ → String Global → Bool
is_name name k = bytes_eq name (string_bytes k)

-- a count is looked up by its name
pub lookup-view : (name : List ℕ) (es : List (String Global × ℕ)) → lookup (is_name name) es ≡ count_of name (view_entries es)
lookup-view name [] = refl
lookup-view name (e ∷ es) = ap (λ r. cond (is_name name e.0) (Some e.1) r) (lookup-view name es)

-- a name is taken out
pub remove-view : (name : List ℕ) (es : List (String Global × ℕ)) → view_entries (remove_entry (is_name name) es) ≡ without name (view_entries es)
remove-view name [] = refl
remove-view name (e ∷ es) =
    let more = remove-view name es in
    elim (is_name name e.0) as (λ v. view_entries (cond v es (e ∷ remove_entry (is_name name) es)) ≡ cond v (view_entries es) ((string_bytes e.0, e.1) ∷ without name (view_entries es))) [
      | true ↦ refl
      | false ↦ ap (λ r. (string_bytes e.0, e.1) ∷ r) more
    ]

-- a new name comes last
pub insert-view : (k : String Global) (v : ℕ) (es : List (String Global × ℕ)) → view_entries (insert_entry string_eq es k v) ≡ put (string_bytes k) v (view_entries es)
insert-view k v [] = refl
insert-view k v (e ∷ es) =
    let more = insert-view k v es in
    elim (string_eq k e.0) as (λ w. view_entries (cond w ((e.0, v) ∷ es) (e ∷ insert_entry string_eq es k v)) ≡ cond w ((string_bytes e.0, v) ∷ view_entries es) ((string_bytes e.0, e.1) ∷ put (string_bytes k) v (view_entries es))) [
      | true ↦ refl
      | false ↦ ap (λ r. (string_bytes e.0, e.1) ∷ r) more
    ]

-- a count is set in its place
pub set-view : (name : List ℕ) (w : ℕ) (es : List (String Global × ℕ)) → position_or_len (is_name name) (keys_of es) < length (keys_of es) → view_entries (set_value_at es (position_or_len (is_name name) (keys_of es)) w) ≡ put name w (view_entries es)
set-view name w [] lt = absurd (omega (arith, lt))
set-view name w (e ∷ es) lt =
    elim (is_name name e.0) as (λ v. cond (not v) (1 + position_or_len (is_name name) (keys_of es)) 0 < length (keys_of (e ∷ es)) → view_entries (set_value_at (e ∷ es) (cond (not v) (1 + position_or_len (is_name name) (keys_of es)) 0) w) ≡ cond v ((string_bytes e.0, w) ∷ view_entries es) ((string_bytes e.0, e.1) ∷ put name w (view_entries es))) [
      | true ↦ λ lt. refl
      | false ↦ λ lt.
          let n = position_or_len (is_name name) (keys_of es) in
          let later : n < length (keys_of es) = omega (arith, lt) in
          let next : 1 + n ≡ suc n = omega arith in
          ap (λ k. view_entries (set_value_at (e ∷ es) k w)) next ∙ ap (λ r. (string_bytes e.0, e.1) ∷ r) (set-view name w es later)
    ] lt

-- a write at the place of the name
pub set_at-view : (name : List ℕ) (w : ℕ) (es : List (String Global × ℕ)) (i : ℕ) → Some i ≡ position (is_name name) (keys_of es) → view_entries (set_value_at es i w) ≡ put name w (view_entries es)
set_at-view name w es i is = elim (nat_lt (position_or_len (is_name name) (keys_of es)) (length (keys_of es))) as (λ v. nat_lt (position_or_len (is_name name) (keys_of es)) (length (keys_of es)) ≡ v → Some i ≡ cond v (Some (position_or_len (is_name name) (keys_of es))) None → view_entries (set_value_at es i w) ≡ put name w (view_entries es)) [
  | true ↦ λ t e. ap (λ k. view_entries (set_value_at es k w)) (same _ _ e) ∙ set-view name w es ((Decides-ltb (position_or_len (is_name name) (keys_of es)) (length (keys_of es))).0 t)
  | false ↦ λ t e. absurd (some_none _ e)
] refl is
  where
    same : (a b : ℕ) → Some a ≡ Some b → a ≡ b
    same a b e = cc

    some_none : (b : ℕ) → ◌≡◌ {A = Option ℕ} (Some b) None → ⊥
    some_none b e = cc

-- a name that isn't there
pub without-absent : (name : List ℕ) (es : Entries) → count_of name es ≡ None → without name es ≡ es
without-absent name [] e = refl
without-absent name (x ∷ xs) e = elim (bytes_eq name x.0) as (λ v. cond v (Some x.1) (count_of name xs) ≡ None → cond v xs (x ∷ without name xs) ≡ x ∷ xs) [
  | true ↦ λ e. absurd (some_none _ e)
  | false ↦ λ e. ap (λ r. x ∷ r) (without-absent name xs e)
] e
  where
    some_none : (b : ℕ) → ◌≡◌ {A = Option ℕ} (Some b) None → ⊥
    some_none b e = cc

-- what a table holds stays where nothing is dropped
same_entries : (k : Kind) (v : CountsView) → with_entries k (entries_at k v) v ≡ v
same_entries kind.File v = refl
same_entries kind.Folder v = refl
same_entries kind.Semlock v = refl

-- the line `UNREGISTER` on the counts
pub unregister_applies : (k : Kind) (name : List ℕ) (old new : CountsView) (s : Step) → s ≡ drop_answer (count_in k name old) → new ≡ with_entries k (without name (entries_at k old)) old → Applies (unregisters k name) old new s
unregister_applies k name old new s is new_is =
    subst (λ r. Applies (unregisters k name) old new r) (sym is)
    (elim (count_in k name old) as (λ o. count_in k name old ≡ o → Applies (unregisters k name) old new (drop_answer o)) [
      | None ↦ λ e. (ap drop_answer (sym e), new_is, new_is ∙ ap (λ es. with_entries k es old) (without-absent name (entries_at k old) e) ∙ same_entries k old)
      | Some n ↦ λ e. (ap drop_answer (sym e), new_is)
    ] refl)

-- the line `MAYBE_UNLINK` on the counts
pub may_unlink_applies : (k : Kind) (name : List ℕ) (old new : CountsView) (s : Step) → s ≡ release_answer (count_in k name old) → new ≡ with_entries k (released name (entries_at k old)) old → Applies (may_unlink k name) old new s
may_unlink_applies k name old new s is new_is =
    subst (λ r. Applies (may_unlink k name) old new r) (sym is)
    (elim (count_in k name old) as (λ o. count_in k name old ≡ o → Applies (may_unlink k name) old new (release_answer o)) [
      | None ↦ λ e. (ap release_answer (sym e), new_is, new_is ∙ ap (λ o. with_entries k (released_by name (entries_at k old) o) old) e ∙ same_entries k old)
      | Some n ↦ λ e. at_some n e
    ] refl)
  where
    at_some : (n : ℕ) → count_in k name old ≡ Some n → Applies (may_unlink k name) old new (release_answer (Some n))
    at_some n e = elim (nat_lt 1 n) as (λ v. cond v (step.Counted (n - 1)) step.Remove ≡ release_answer (count_in k name old) → Applies (may_unlink k name) old new (cond v (step.Counted (n - 1)) step.Remove)) [
      | true ↦ λ h. (h, new_is)
      | false ↦ λ h. (h, new_is)
    ] (ap release_answer (sym e))

-- the line `REGISTER` on the counts
pub register_applies : (k : Kind) (name : List ℕ) (old new : CountsView) (es : Entries) (s : Step) → Registers name (entries_at k old) es s → new ≡ with_entries k es old → Applies (registers k name) old new s
register_applies k name old new es (step.Counted n) h is = (ap step.Counted h.0, is ∙ ap (λ r. with_entries k r old) h.1)
register_applies k name old new es step.Dropped h is = absurd h
register_applies k name old new es step.Remove h is = absurd h
register_applies k name old new es step.Unknown h is = absurd h
register_applies k name old new es step.Nothing h is = absurd h
register_applies k name old new es step.NoMemory h is = (h.0, is ∙ ap (λ r. with_entries k r old) h.1 ∙ same_entries k old)
