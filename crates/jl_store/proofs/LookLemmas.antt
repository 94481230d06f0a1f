-- What a look tells, from what was read.
use Rattle.std.proofs.Common.{◌≡◌, ℕ, ◌+◌, ◌≤◌, List, [], ◌∷◌, ◌++◌, length, take, refl, sym, ap, subst, ◌∙◌, arith, length-take, append-nil}
use Rattle.std.proofs.lemmas.List.{take_all, append_cancel_left}
use Rattle.jl_text.specs.Paths.{PathView}
use Rattle.jl_value.specs.Form.{tree_of}
use Rattle.jl_value.specs.Key.{key_of}
use Rattle.jl_value.specs.declared.key.Key.{Key}
use Rattle.jl_folder.specs.State.{State, Trace}
use Rattle.jl_folder.specs.Views.{FolderView}
use Rattle.jl_text.specs.Counts.{Rose}
use Rattle.jl_folder.specs.Reading.{ReadsNamed, OpenedHas}
use Rattle.jl_entry.specs.Entry.{Members, IsOther}
use Rattle.jl_protocol.specs.Whole.{most_bytes}
use Rattle.jl_store.specs.declared.found.Found.{Found}
use Rattle.jl_store.specs.declared.found.Found.TheVariants as found
use Rattle.jl_store.specs.declared.found.Look.{Look}
use Rattle.jl_store.specs.declared.memory.WarnKind.{WarnKind}
use Rattle.jl_store.specs.declared.memory.WarnKind.TheVariants.{LoadFault, NotMine, Damaged}
use Rattle.jl_store.specs.declared.memory.Warning.{Warning}
use Rattle.jl_store.specs.Asked.{Asked}
use Rattle.jl_store.specs.Looking.{IsStored, IsReadable, IsJudged, Finds, FindsAsked, Missing, absent, failed, other, damaged, warning, warnings_for, IsMissing, LooksUp, IsMiss, SettlesFound}

-- all was read, where fewer bytes were read than were wanted
pub read_whole : (m : ℕ) (bytes whole : List ℕ) → bytes ≡ take (m + 1) whole → length bytes ≤ m → bytes ≡ whole
read_whole m bytes whole e le = e ∙ take_all (m + 1) whole (omega (arith, le, ap length e, length-take (m + 1) whole))

-- and where no more is there than is wanted
pub read_short : (m : ℕ) (bytes whole : List ℕ) → bytes ≡ take (m + 1) whole → length whole ≤ m → bytes ≡ whole
read_short m bytes whole e le = e ∙ take_all (m + 1) whole (omega (arith, le))

-- what was read is what the node had
pub read_has : (path : PathView) (bytes : List ℕ) (P : List ℕ → Type 0) (s : State) (moves : Trace) (reads : ReadsNamed path 16777217 bytes s moves) → P reads.view.bytes → OpenedHas path P s moves
read_has path bytes P s moves reads has = record {
  before = reads.before;
  middle = reads.middle;
  later = reads.later;
  split = reads.split;
  node = reads.node;
  named = reads.named;
  view = reads.view;
  node_is = reads.node_is;
  has = has;
}

-- a file that was read is what it was judged to be
pub finds_read : (path : PathView) (code : List ℕ) (ps : Members) (bytes : List ℕ) (r : Found) (s : State) (moves : Trace) → ReadsNamed path 16777217 bytes s moves → IsJudged r bytes code ps → Finds path code ps r s moves
finds_read path code ps bytes r s moves reads judged = by_case r judged
  where
    whole : length bytes ≤ 16777216 → bytes ≡ reads.view.bytes
    whole le = read_whole 16777216 bytes reads.view.bytes reads.has le

    by_case : (r' : Found) → IsJudged r' bytes code ps → Finds path code ps r' s moves
    by_case (found.Value v) j = read_has path bytes (λ b. IsStored b code ps (tree_of v)) s moves reads (subst (λ b. IsStored b code ps (tree_of v)) (whole j.0) j)
    by_case found.Absent j = absurd j
    by_case found.NotMine j = read_has path bytes (λ b. (length b ≤ most_bytes) × IsOther b code ps) s moves reads (subst (λ b. (length b ≤ most_bytes) × IsOther b code ps) (whole j.0) j)
    by_case found.Damaged j =
        read_has path bytes (λ b. IsReadable b → ⊥) s moves reads
        (λ readable. j (subst IsReadable (sym (read_short 16777216 bytes reads.view.bytes reads.has readable.0)) readable))
    by_case found.Fault j = absurd j
    by_case found.NoMemory j = tt

-- ---- the answer of a look

pub settled_as : (r : Look) (d : Found) (f f' : List ℕ) (key : Key) (ws0 ws ws' : List Warning) → f ≡ f' → ws0 ≡ ws → SettlesFound r d f key ws0 ws' → SettlesFound r d f' key ws ws'
settled_as r d f f' key ws0 ws ws' named same settled =
    subst (λ (v : List Warning). SettlesFound r d f' key v ws') same (subst (λ (n : List ℕ). SettlesFound r d n key ws0 ws') named settled)

module _ (a : Asked) (ws ws' : List Warning) (old new : FolderView) where
  -- a miss that is warned of
  missed : (why : Missing) (kind : WarnKind) (r : Look) (key : Key) → key ≡ record { 0 = key_of a.args } → warnings_for why a.function_name a.args ≡ warning kind a.function_name a.args ∷ [] → IsMiss r kind a.function_name key ws ws' → IsMissing why a old new → LooksUp r a ws ws' old new
  missed why kind r key is warns miss missing =
      subst (λ (k : Look). LooksUp k a ws ws' old new) (sym miss.0)
      (why, miss.1 ∙ ap (λ (k : Key). ws ++ record { kind = kind; name = a.function_name; key = k } ∷ []) is ∙ ap (λ (l : List Warning). ws ++ l) (sym warns), missing)

  -- what was found is answered
  pub looks_found : (r : Look) (d : Found) (key : Key) → key ≡ record { 0 = key_of a.args } → SettlesFound r d a.function_name key ws ws' → FindsAsked a d old new → (d ≡ found.Fault → Rose old.faults new.faults) → LooksUp r a ws ws' old new
  looks_found r (found.Value v) key is settled finds rose = subst (λ (k : Look). LooksUp k a ws ws' old new) (sym settled.0) (settled.1, finds)
  looks_found r found.Absent key is settled finds rose = subst (λ (k : Look). LooksUp k a ws ws' old new) (sym settled.0) (absent, settled.1 ∙ sym (append-nil ws), finds)
  looks_found r found.NotMine key is settled finds rose = missed other NotMine r key is refl settled finds
  looks_found r found.Damaged key is settled finds rose = missed damaged Damaged r key is refl settled finds
  looks_found r found.Fault key is settled finds rose = missed failed LoadFault r key is refl settled (rose refl)
  looks_found r found.NoMemory key is settled finds rose = subst (λ (k : Look). LooksUp k a ws ws' old new) (sym settled.0) settled.1

-- ---- warnings are told apart

one_warning : (v w : Warning) → v ∷ [] ≡ w ∷ [] → v ≡ w
one_warning v w e = cc

pub kind_same : (ws : List Warning) (v w : Warning) → ws ++ v ∷ [] ≡ ws ++ w ∷ [] → v.kind ≡ w.kind
kind_same ws v w e = ap (λ (x : Warning). x.kind) (one_warning v w (append_cancel_left ws (v ∷ []) (w ∷ []) e))

pub one_more : (ws : List Warning) (w : Warning) → ws ≡ ws ++ w ∷ [] → ⊥
one_more ws w e = let none : [] ≡ w ∷ [] = append_cancel_left ws [] (w ∷ []) (append-nil ws ∙ e) in cc

-- a load fault is warned of exactly where the reading failed
module _ (r : Look) (f : List ℕ) (ps : Members) (key : Key) (is : key ≡ record { 0 = key_of ps }) (ws ws' : List Warning) where
  pub fault_warned : (d : Found) → SettlesFound r d f key ws ws' → d ≡ found.Fault → ws' ≡ ws ++ warning LoadFault f ps ∷ []
  fault_warned d settled e =
      let at : SettlesFound r found.Fault f key ws ws' = subst (λ (k : Found). SettlesFound r k f key ws ws') e settled in
      at.1 ∙ ap (λ (k : Key). ws ++ record { kind = LoadFault; name = f; key = k } ∷ []) is

  pub warned_fault : (d : Found) → SettlesFound r d f key ws ws' → ws' ≡ ws ++ warning LoadFault f ps ∷ [] → d ≡ found.Fault
  warned_fault (found.Value v) settled e = absurd (one_more ws _ (sym settled.1 ∙ e))
  warned_fault found.Absent settled e = absurd (one_more ws _ (sym settled.1 ∙ e))
  warned_fault found.NotMine settled e = let k : NotMine ≡ LoadFault = kind_same ws _ _ (sym settled.1 ∙ e) in cc
  warned_fault found.Damaged settled e = let k : Damaged ≡ LoadFault = kind_same ws _ _ (sym settled.1 ∙ e) in cc
  warned_fault found.Fault settled e = refl
  warned_fault found.NoMemory settled e = absurd (one_more ws _ (sym settled.1 ∙ e))
