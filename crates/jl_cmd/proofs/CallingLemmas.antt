-- What a call of a function does over the cache folder.
use Rattle.std.proofs.Common.{◌≡◌, ◌∙◌, ◌⊎◌, inl, inr, ⊎_elim, ℕ, List, [], ◌∷◌, ◌++◌, Some, refl, sym, ap, subst, arith, append-nil}
use Rattle.std.specs.Prelude.{⊤}
use Rattle.jl_text.specs.Paths.{PathView}
use Rattle.jl_text.specs.Counts.{Rose}
use Rattle.jl_folder.specs.State.{State}
use Rattle.jl_folder.specs.declared.moves.Move.{Move}
use Rattle.jl_folder.specs.Views.{FolderView, FolderKeeps, state, moved}
use Rattle.jl_folder.specs.Calls.{Waits}
use Rattle.jl_streams.specs.Views.{SinkView, HostView}
use Rattle.jl_value.specs.Library.{Answer}
use Rattle.jl_rely.specs.Steps.{IsLone}
use Rattle.jl_rely.specs.Claims.{GoesOn}
use Rattle.jl_rely.specs.Touches.{TouchedByOther}
use Rattle.jl_rely.proofs.Alone.{lone_parts, waits_alone}
use Rattle.jl_rely.proofs.Causes.{touched_later}
use Rattle.jl_rely.proofs.Composed.{goes_waits}
use Rattle.jl_entry.specs.Names.{root_of}
use Rattle.jl_protocol.specs.Tidy.{IsSound}
use Rattle.jl_protocol.specs.Proper.{IsLawful}
use Rattle.jl_protocol.proofs.Before.{one_value}
use Rattle.jl_store.specs.declared.memory.Memory.{Memory}
use Rattle.jl_store.specs.declared.memory.Warning.{Warning}
use Rattle.jl_store.specs.declared.memory.WarnKind.{WarnKind}
use Rattle.jl_store.specs.declared.memory.WarnKind.TheVariants.{LoadFault, StoreFault, NotMine, Damaged, Skipped}
use Rattle.jl_store.specs.declared.cached.Cached.{Cached}
use Rattle.jl_store.specs.declared.cached.Cached.TheVariants as cached
use Rattle.jl_store.specs.Cached.{IsAnswer, CountsCall}
use Rattle.jl_store.specs.Stretch.{point, between}
use Rattle.jl_store.specs.Trust.{IsTrusted}
use Rattle.jl_store.specs.Asked.{Asked, output_asked}
use Rattle.jl_store.specs.Next.{LeavesNext, AreTimed}
use Rattle.jl_store.specs.Warned.{UsesCall, IsCaused, AreCaused}
use Rattle.jl_store.proofs.Lawfully.{lawful_none}
use Rattle.jl_store.proofs.CodeAlone.{lone_owed}
use Rattle.jl_store.proofs.Causing.{opened_later, orderly_later}
use Rattle.jl_words.specs.ModuleNames.{module_name_of}
use Rattle.jl_cmd.specs.declared.computed.Computed.{Computed}
use Rattle.jl_cmd.specs.declared.computed.Computed.TheVariants as computed
use Rattle.jl_cmd.specs.declared.ended.Ended.{Ended}
use Rattle.jl_cmd.specs.declared.ended.Ended.TheVariants.{Done, Failed, Usage, Refused, ReadFault, WriteFault, NoMemory, NoModule, FolderFault}
use Rattle.jl_cmd.specs.Course.{Meanings, Stretch, stretch}
use Rattle.jl_cmd.specs.Caches.{CallsLawfully, IsOfCall}
use Rattle.jl_cmd.specs.Endings.{ReadFrom, status_of}
use Rattle.jl_cmd.specs.Computing.{Counts, IsPrinted, IsFailed, IsRefused, WritesWarned}
use Rattle.jl_cmd.specs.Texts.{warning_lines}
use Rattle.jl_cmd.specs.Calling.{Asks, asked_by, memory_at, CallWarns, AreOfCall, IsStatusOf, LeavesAsked, LeavesCalled, LeavesRead, ComputedAt, EndedAt}
use Rattle.jl_cmd.specs.Saying.{StatusAt}
use Rattle.jl_cmd.specs.of.Call.{ComputesCall, CallSays, CallLeaves}

-- ---- claims on statuses

pub printed_at : (r : Computed) (P : ℕ → Type 0) → IsPrinted r → P 0 → ComputedAt r P
printed_at (computed.Printed t) P is p = p
printed_at (computed.Failed t) P is p = absurd is
printed_at (computed.Refused t) P is p = absurd is
printed_at computed.NoMemory P is p = tt

pub failed_at : (r : Computed) (P : ℕ → Type 0) → IsFailed r → P 1 → ComputedAt r P
failed_at (computed.Printed t) P is p = absurd is
failed_at (computed.Failed t) P is p = p
failed_at (computed.Refused t) P is p = absurd is
failed_at computed.NoMemory P is p = tt

pub refused_at : (r : Computed) (P : ℕ → Type 0) → IsRefused r → ComputedAt r P
refused_at (computed.Printed t) P is = absurd is
refused_at (computed.Failed t) P is = absurd is
refused_at (computed.Refused t) P is = tt
refused_at computed.NoMemory P is = tt

pub computed_map : (r : Computed) (P Q : ℕ → Type 0) → ((n : ℕ) → P n → Q n) → ComputedAt r P → ComputedAt r Q
computed_map (computed.Printed t) P Q f h = f 0 h
computed_map (computed.Failed t) P Q f h = f 1 h
computed_map (computed.Refused t) P Q f h = tt
computed_map computed.NoMemory P Q f h = tt

refused_counts : (c : Computed) (old new : ℕ) → IsRefused c → new ≡ old → Counts c old new
refused_counts (computed.Printed t) old new is same = absurd is
refused_counts (computed.Failed t) old new is same = absurd is
refused_counts (computed.Refused t) old new is same = same
refused_counts computed.NoMemory old new is same = inl same

-- a call that was refused before the cache was asked
pub call_refused : (memory : Memory) (bytes name args : List ℕ) (means : Meanings) (calls calls' : ℕ) (folder : FolderView) (host : HostView) (c : Computed) (ws : List Warning) → IsRefused c → calls' ≡ calls → ComputesCall memory bytes name args (stretch means calls calls' folder folder host host) c ws ws
call_refused memory bytes name args means calls calls' folder host c ws is same = record {
  lawful = λ told. lawful_none (root_of memory.location) means.answer (IsOfCall (root_of memory.location) memory.«module» name folder.token) folder;
  calls = refused_counts c calls calls' is same;
  warns = ([], sym (append-nil ws), inl refl);
  alone = λ told lone sound rose. refused_at c _ is;
  comes = refused_at c _ is;
  task = λ told. inl (is, ap (λ (k : ℕ). between (point folder host k ws)) same);
}

-- an ending with neither a value nor an error
pub memory_at_end : (e : Ended) (P : ℕ → Type 0) → e ≡ NoMemory → EndedAt e P
memory_at_end e P is = subst (λ (e' : Ended). EndedAt e' P) (sym is) tt

pub usage_at_end : (e : Ended) (P : ℕ → Type 0) → e ≡ Usage → EndedAt e P
usage_at_end e P is = subst (λ (e' : Ended). EndedAt e' P) (sym is) tt

pub module_at_end : (e : Ended) (P : ℕ → Type 0) → e ≡ NoModule → EndedAt e P
module_at_end e P is = subst (λ (e' : Ended). EndedAt e' P) (sym is) tt

pub folder_at_end : (e : Ended) (P : ℕ → Type 0) → e ≡ FolderFault → EndedAt e P
folder_at_end e P is = subst (λ (e' : Ended). EndedAt e' P) (sym is) tt

-- what was computed, once it is written
pub written_at : (c : Computed) (e : Ended) (P : ℕ → Type 0) (out out' : SinkView) → WritesWarned c e out out' → ComputedAt c P → EndedAt e P
written_at c e P out out' (inr lost) h = memory_at_end e P lost.0
written_at (computed.Printed t) Done P out out' (inl x) h = h
written_at (computed.Printed t) WriteFault P out out' (inl x) h = tt
written_at (computed.Printed t) (Failed u) P out out' (inl x) h = absurd x
written_at (computed.Printed t) Usage P out out' (inl x) h = tt
written_at (computed.Printed t) (Refused u) P out out' (inl x) h = tt
written_at (computed.Printed t) ReadFault P out out' (inl x) h = tt
written_at (computed.Printed t) NoMemory P out out' (inl x) h = tt
written_at (computed.Printed t) NoModule P out out' (inl x) h = tt
written_at (computed.Printed t) FolderFault P out out' (inl x) h = tt
written_at (computed.Failed t) e P out out' (inl x) h = subst (λ (e' : Ended). EndedAt e' P) (sym x.0) h
written_at (computed.Refused t) e P out out' (inl x) h = subst (λ (e' : Ended). EndedAt e' P) (sym x.0) tt
written_at computed.NoMemory e P out out' (inl x) h = memory_at_end e P x.0

-- ---- statuses of answers

-- a number that is neither of two
neither : (n : ℕ) → (n ≡ 0 → ⊥) → (n ≡ 1 → ⊥) → (n ≡ 0) ⊎ (n ≡ 1) → ⊥
neither n zero one (inl e) = zero e
neither n zero one (inr e) = one e

pub status_at : (e : Ended) (P : ℕ → Type 0) → EndedAt e P → StatusAt (status_of e) P
status_at Done P h = λ n. h
status_at (Failed t) P h = λ n. h
status_at Usage P h = λ n. absurd (neither 2 (λ e. omega arith) (λ e. omega arith) n)
status_at (Refused t) P h = λ n. absurd (neither 3 (λ e. omega arith) (λ e. omega arith) n)
status_at ReadFault P h = λ n. absurd (neither 5 (λ e. omega arith) (λ e. omega arith) n)
status_at WriteFault P h = λ n. absurd (neither 6 (λ e. omega arith) (λ e. omega arith) n)
status_at NoMemory P h = λ n. absurd (neither 8 (λ e. omega arith) (λ e. omega arith) n)
status_at NoModule P h = λ n. absurd (neither 9 (λ e. omega arith) (λ e. omega arith) n)
status_at FolderFault P h = λ n. absurd (neither 10 (λ e. omega arith) (λ e. omega arith) n)

-- what a lone call leaves, at the status of its ending
pub leaves_at : (file location : PathView) (bytes name args : List ℕ) (v : Stretch) (e : Ended) (n : ℕ) → n ≡ status_of e → CallLeaves file location bytes name args v (EndedAt e) → CallLeaves file location bytes name args v (StatusAt n)
leaves_at file location bytes name args v e n at h = λ told m is lone sound rose.
    subst (λ (k : ℕ). StatusAt k (LeavesRead file (memory_at location m v.folder.token) bytes name args v)) (sym at) (status_at e _ (h told m is lone sound rose))

-- ---- a lone call

trusted_answer : (r : Cached) (x : Answer) (T : Type 0) → T → IsAnswer r x T → IsAnswer r x ⊤
trusted_answer (cached.Hit v) x T trust h = λ _. h trust
trusted_answer (cached.Computed v) x T trust h = h
trusted_answer (cached.Error e) x T trust h = h
trusted_answer cached.NoMemory x T trust h = tt

-- what the cached call leaves and answers, at a status of its own
pub asked_leaves : (location : PathView) (a : Asked) (Kinds : Move → Type 0) (v : Stretch) (r : Cached) (n : ℕ) → v.folder.told → IsStatusOf r n → IsAnswer r (v.means.answer a.code a.args) (IsTrusted (root_of location) v.means.answer v.folder v.folder') → CountsCall r v.calls v.calls'
    → CallsLawfully location v.means.answer Kinds v.folder v.folder' → IsLone v.folder.token (moved v.folder v.folder') → IsSound (root_of location) v.means.answer (state v.folder)
    → ((duration : ℕ) × (moment : ℕ) × LeavesNext r a duration moment (state v.folder) (state v.folder') × (v.host.told → AreTimed r duration moment v.host)) → LeavesAsked a v n
asked_leaves location a Kinds v r n told is answers counts lawful lone sound leaves =
    let P = IsLawful (root_of location) v.means.answer in
    let steps = lone_owed P P v.folder.token (λ t s m owed. owed) (state v.folder) (moved v.folder v.folder') lone (lawful.owes sound) in
    record {
      result = r;
      status = is;
      answers = trusted_answer r (v.means.answer a.code a.args) (IsTrusted (root_of location) v.means.answer v.folder v.folder') (told, sound, steps) answers;
      counts = counts;
      duration = leaves.0;
      moment = leaves.1;
      leaves = leaves.2;
      timed = leaves.3;
    }

-- ---- one memory, by its parts

memory_same : (x : Memory) (location : PathView) (m token : List ℕ) → x.location ≡ location → x.«module» ≡ m → x.token ≡ token → x ≡ memory_at location m token
memory_same x location m token e f g = λ i. record { location = e i; «module» = f i; token = g i }

pub named_memory : (x : Memory) (file location : PathView) (m token : List ℕ) → x.location ≡ location → module_name_of file ≡ Some x.«module» → x.token ≡ token → module_name_of file ≡ Some m → x ≡ memory_at location m token
named_memory x file location m token e named g is = memory_same x location m token e (one_value (module_name_of file) x.«module» m named is) g

-- ---- the command

-- the parts of a call: what was read of the module's file, and then what the function came to
pub record Parts (v : Stretch) (mid : FolderView) (file location : PathView) (memory : Memory) (bytes : List ℕ) : Type 0 where
  pub keeps : FolderKeeps v.folder mid
  pub keeps' : FolderKeeps mid v.folder'
  pub waits : v.folder.told → Waits v.folder mid
  pub second : mid.told → GoesOn mid v.folder'
  pub reads : v.folder.told → ReadFrom file bytes v.folder v.folder'
  pub reading : v.folder.told → ReadFrom file bytes v.folder mid
  pub located : memory.location ≡ location
  pub named : module_name_of file ≡ Some memory.«module»
  pub by : memory.token ≡ v.folder.token

-- the part after the reading
abbrev pub after_reading : Stretch → (mid : FolderView) → Stretch
after_reading v mid = stretch v.means v.calls v.calls' mid v.folder' v.host v.host'

module _ (v : Stretch) (mid : FolderView) (file location : PathView) (memory : Memory) (bytes : List ℕ) (parts : Parts v mid file location memory bytes) where
  pub first : v.folder.told → GoesOn v.folder mid
  first t = goes_waits v.folder mid parts.keeps.token (parts.waits t)

  pub next : v.folder.told → GoesOn mid v.folder'
  next t = parts.second (parts.keeps.told t)

  rose_over : Rose mid.faults v.folder'.faults → Rose v.folder.faults v.folder'.faults
  rose_over rose = let l = parts.keeps.later in omega (arith, l, rose)

  module _ (a : Asked) (mine : v.folder.token ≡ a.token) where
    touched_over : v.folder.told → TouchedByOther a.token (UsesCall a) (moved mid v.folder') → TouchedByOther a.token (UsesCall a) (moved v.folder v.folder')
    touched_over t touched =
        subst (λ (u : List ℕ). TouchedByOther u (UsesCall a) (moved v.folder v.folder')) mine
        (touched_later (UsesCall a) v.folder mid v.folder' (first t) (next t) (subst (λ (u : List ℕ). TouchedByOther u (UsesCall a) (moved mid v.folder')) (sym (parts.keeps.token ∙ mine)) touched))

    caused_over : (k : WarnKind) → IsCaused k a mid v.folder' → IsCaused k a v.folder v.folder'
    caused_over LoadFault c = rose_over c
    caused_over StoreFault c = rose_over c
    caused_over NotMine c = λ t. opened_later v.folder mid v.folder' (first t) (next t) (output_asked a) _ (c (parts.keeps.told t))
    caused_over Damaged c = (
      λ t. opened_later v.folder mid v.folder' (first t) (next t) (output_asked a) _ (c.0 (parts.keeps.told t)),
      λ t orderly. c.1 (parts.keeps.told t) (orderly_later v.folder mid v.folder' (first t) (next t) a.root orderly),
    )
    caused_over Skipped c = λ t orderly.
        ⊎_elim
        (λ (touched : TouchedByOther a.token (UsesCall a) (moved mid v.folder')). inl (touched_over t touched))
        (λ (rose : Rose mid.faults v.folder'.faults). inr (rose_over rose))
        (c (parts.keeps.told t) (orderly_later v.folder mid v.folder' (first t) (next t) a.root orderly))

    pub all_over : (ws : List Warning) → AreCaused ws a mid v.folder' → AreCaused ws a v.folder v.folder'
    unfolding AreCaused
    all_over [] caused = tt
    all_over (w ∷ ws) caused = ((caused.0.0, caused.0.1, caused_over w.kind caused.0.2), all_over ws caused.1)

  -- the lines of the warnings of the call
  pub call_lines : (name args lines : List ℕ) (ended : Ended) (none items : List Warning) → none ≡ [] → (lines ≡ warning_lines memory.«module» items) ⊎ ((lines ≡ []) × (ended ≡ NoMemory)) → CallWarns v.means memory bytes name args mid v.folder' none items → CallSays file location bytes name args v lines
  call_lines name args lines ended none items empty (inr silent) warns m is = ([], silent.0, inl refl)
  call_lines name args lines ended none items empty (inl said) warns m is =
      let same = named_memory memory file location m v.folder.token parts.located parts.named parts.by is in
      let added : items ≡ warns.0 = warns.1 ∙ ap (λ (l : List Warning). l ++ warns.0) empty in (
        items,
        said ∙ ap (λ (x : Memory). warning_lines x.«module» items) same,
        subst (λ (x : Memory). AreOfCall v.means file x bytes name args v.folder v.folder' items) same (of_call warns.0 added warns.2),
      )
    where
      of_call : (added : List Warning) → items ≡ added → (added ≡ []) ⊎ ((q : Asks v.means bytes name args) × AreCaused added (asked_by v.means memory bytes name args q) mid v.folder') → AreOfCall v.means file memory bytes name args v.folder v.folder' items
      of_call added e (inl none) = inl (e ∙ none)
      of_call added e (inr h) =
          let a = asked_by v.means memory bytes name args h.0 in
          inr (parts.reads, h.0, subst (λ (l : List Warning). AreCaused l a v.folder v.folder') (sym e) (all_over a (sym parts.by) added h.1))

  -- what a lone call left
  pub call_leaves : (name args : List ℕ) (c : Computed) → (mid.told → IsLone mid.token (moved mid v.folder') → IsSound (root_of memory.location) v.means.answer (state mid) → (Rose mid.faults v.folder'.faults → ⊥) → ComputedAt c (LeavesCalled memory bytes name args (after_reading v mid)))
      → CallLeaves file location bytes name args v (ComputedAt c)
  call_leaves name args c leaves told m is lone sound rose =
      let same = named_memory memory file location m v.folder.token parts.located parts.named parts.by is in
      let each = lone_parts v.folder mid v.folder' (first told) (next told) lone in
      let still : state mid ≡ state v.folder = waits_alone v.folder mid (parts.waits told) each.0 in
      let sound' =
      subst (λ (s : State). IsSound (root_of memory.location) v.means.answer s) (sym still) (subst (λ (p : PathView). IsSound (root_of p) v.means.answer (state v.folder)) (sym parts.located) sound) in
      computed_map c _ _
      (λ n h. (parts.reads told, subst (λ (x : Memory). LeavesCalled x bytes name args v n) same (h.0, leaves_over still (asked_by v.means memory bytes name args h.0) n h.1)))
      (leaves (parts.keeps.told told) each.1 sound' (λ r. rose (rose_over r)))
    where
      leaves_over : state mid ≡ state v.folder → (a : Asked) (n : ℕ) → LeavesAsked a (after_reading v mid) n → LeavesAsked a v n
      leaves_over still a n h = record {
        result = h.result;
        status = h.status;
        answers = h.answers;
        counts = h.counts;
        duration = h.duration;
        moment = h.moment;
        leaves = subst (λ (s : State). LeavesNext h.result a h.duration h.moment s (state v.folder')) still h.leaves;
        timed = h.timed;
      }
