-- How a call of a function came to its answer, from its parts to the whole run.
use Rattle.std.proofs.Common.{◌≡◌, ◌∙◌, ◌⊎◌, inl, inr, ℕ, List, [], ◌++◌, Some, sym, ap, subst, append-nil}
use Rattle.std.specs.Bool.{⊤}
use Rattle.std.proofs.lemmas.List.{append_cancel_left}
use Rattle.jl_text.specs.Paths.{PathView}
use Rattle.jl_folder.specs.declared.moves.Move.{Move}
use Rattle.jl_folder.specs.Views.{FolderView, state, moved}
use Rattle.jl_folder.specs.Reading.{OpenedHas}
use Rattle.jl_rely.specs.Steps.{OwnMoves}
use Rattle.jl_rely.specs.Claims.{Called, GoesOn, Silent, Anywhere}
use Rattle.jl_rely.proofs.Composed.{carried_stable, waits_called, then_called}
use Rattle.jl_rely.proofs.Moving.{moves_waits}
use Rattle.jl_rely.proofs.Since.{moved_then}
use Rattle.jl_rely.proofs.Traces.{OwnMoves-append}
use Rattle.jl_streams.specs.Views.{SinkView}
use Rattle.jl_store.specs.declared.memory.Memory.{Memory}
use Rattle.jl_store.specs.declared.memory.Warning.{Warning}
use Rattle.jl_store.specs.declared.cached.Cached.{Cached}
use Rattle.jl_store.specs.Asked.{Asked}
use Rattle.jl_store.specs.Calling.{IsCalling, IsWritingCall, ClearsOnlyAnothers, PutsCall, PutsFiles, IsBeforeOutput}
use Rattle.jl_store.specs.Keeping.{texts}
use Rattle.jl_store.specs.Next.{entry_asked}
use Rattle.jl_store.specs.Done.{HasDoneBut, DoesOrWarns}
use Rattle.jl_protocol.specs.Proper.{IsProper}
use Rattle.jl_protocol.specs.Tidy.{IsTidy}
use Rattle.jl_protocol.proofs.Kills.{tidy_carried}
use Rattle.jl_store.proofs.Orders.{ordered_later}
use Rattle.jl_store.proofs.Causing.{opened_later, orderly_later}
use Rattle.jl_store.proofs.Coming.{comes_later, tidy_later}
use Rattle.jl_store.proofs.DoneLemmas.{done_later}
use Rattle.jl_words.specs.ModuleNames.{module_name_of}
use Rattle.jl_cmd.specs.declared.computed.Computed.{Computed}
use Rattle.jl_cmd.specs.declared.computed.Computed.TheVariants as computed
use Rattle.jl_cmd.specs.declared.ended.Ended.{Ended}
use Rattle.jl_cmd.specs.declared.ended.Ended.TheVariants.{Done, Failed, Usage, Refused, ReadFault, WriteFault, NoMemory, NoModule, FolderFault}
use Rattle.jl_cmd.specs.Course.{Stretch, IsClear}
use Rattle.jl_cmd.specs.Output.{Output}
use Rattle.jl_cmd.specs.Endings.{status_of, last_text}
use Rattle.jl_cmd.specs.Computing.{Computes, IsPrinted, IsFailed, WritesWarned}
use Rattle.jl_cmd.specs.Texts.{warning_lines}
use Rattle.jl_cmd.specs.Calling.{asked_by, memory_at, ComputedAt, EndedAt}
use Rattle.jl_cmd.specs.Saying.{StatusAt}
use Rattle.jl_cmd.specs.Coming.{ComesAsked, ComesCalled, ComesRead, CallComes, IsComputed, ComputedWith, EndsWith, PutsOut}
use Rattle.jl_cmd.proofs.CallingLemmas.{Parts, after_reading, first, next, all_over, computed_map, memory_at_end, named_memory, status_at}
use Rattle.jl_cmd.proofs.IdleLemmas.{own_waits}

-- ---- what was computed

-- a text that was printed is the output that was to be
pub printed_with : (o : Output) (r : Computed) (P : ℕ → Type 0) → Computes o ⊤ r → IsPrinted r → (IsComputed o r → P 0) → ComputedAt r P
printed_with o (computed.Printed t) P computes is f = f (computes tt)
printed_with o (computed.Failed t) P computes is f = absurd is
printed_with o (computed.Refused t) P computes is f = absurd is
printed_with o computed.NoMemory P computes is f = tt

-- the text of an error is the output that was to be
pub failed_with : (o : Output) (r : Computed) (P : ℕ → Type 0) → Computes o ⊤ r → IsFailed r → (IsComputed o r → P 1) → ComputedAt r P
failed_with o (computed.Printed t) P computes is f = absurd is
failed_with o (computed.Failed t) P computes is f = f computes
failed_with o (computed.Refused t) P computes is f = absurd is
failed_with o computed.NoMemory P computes is f = tt

-- what was done but for the warnings that were added
pub done_but : (r : Cached) (a : Asked) (old new : FolderView) (ws ws' added : List Warning) → ws' ≡ ws ++ added → DoesOrWarns r a ws ws' old new → HasDoneBut r a (state old) (moved old new) added
done_but r a old new ws ws' added e d = subst (λ (items : List Warning). HasDoneBut r a (state old) (moved old new) items) (append_cancel_left ws d.0 added (sym d.1 ∙ e)) d.2

-- what was put out may be told by another sign that the first gives
asked_as : (a : Asked) (v : Stretch) (Puts Puts' : Output → List Warning → Type 0) (n : ℕ) → ((o : Output) (added : List Warning) → Puts o added → Puts' o added) → ComesAsked a v Puts n → ComesAsked a v Puts' n
asked_as a v Puts Puts' n gives x = record {
  result = x.result;
  output = x.output;
  gives = x.gives;
  status = x.status;
  warnings = x.warnings;
  caused = x.caused;
  puts = gives x.output x.warnings x.puts;
  answers = x.answers;
  counts = x.counts;
  comes = x.comes;
  tidy = x.tidy;
  done = x.done;
  moves = x.moves;
  clears = x.clears;
  files = x.files;
  order = x.order;
  clock = x.clock;
}

put_as : (file : PathView) (memory : Memory) (bytes name args : List ℕ) (v : Stretch) (Puts Puts' : Output → List Warning → Type 0) (n : ℕ) → ((o : Output) (added : List Warning) → Puts o added → Puts' o added) → ComesRead file memory bytes name args v Puts n → ComesRead file memory bytes name args v Puts' n
put_as file memory bytes name args v Puts Puts' n gives h = (h.0, (h.1.0, asked_as (asked_by v.means memory bytes name args h.1.0) v Puts Puts' n gives h.1.1))

-- ---- what was written

module _ (out out' : SinkView) (lines m : List ℕ) (none items : List Warning) (empty : none ≡ []) (said : lines ≡ warning_lines m items) where
  -- the lines are those of the warnings that were added
  added_lines : (added : List Warning) → items ≡ none ++ added → lines ≡ warning_lines m added
  added_lines added e = said ∙ ap (λ (ws : List Warning). warning_lines m ws) (e ∙ ap (λ (ws : List Warning). ws ++ added) empty)

  -- a value that was printed whole
  done_with : (t : List ℕ) → (out.told → out'.written ≡ out.written ++ t) → (o : Output) (added : List Warning) → ComputedWith (computed.Printed t) none items o added → EndsWith Done lines out out' m o added
  done_with t wrote o added k = record {
    lines = added_lines added k.1;
    text = ap (λ (x : Output). x.text) k.0;
    bytes = λ told. wrote told ∙ ap (λ (x : Output). out.written ++ x.bytes) (sym k.0);
  }

  -- an error of the function
  failed_so : (t : List ℕ) → (out.told → out'.written ≡ out.written) → (o : Output) (added : List Warning) → ComputedWith (computed.Failed t) none items o added → EndsWith (Failed t) lines out out' m o added
  failed_so t same o added k = record {
    lines = added_lines added k.1;
    text = ap (λ (x : Output). x.text) k.0;
    bytes = λ told. same told ∙ sym (append-nil out.written) ∙ ap (λ (x : Output). out.written ++ x.bytes) (sym k.0);
  }

  -- what was computed ended so
  module _ (file : PathView) (memory : Memory) (bytes name args : List ℕ) (v : Stretch) where
    abbrev Came : (Output → List Warning → Type 0) → ℕ → Type 0
    Came Puts n = ComesRead file memory bytes name args v Puts n

    ended_with : (c : Computed) (e : Ended) → WritesWarned c e out out' → ComputedAt c (Came (ComputedWith c none items)) → EndedAt e (Came (EndsWith e lines out out' m))
    ended_with c e (inr lost) h = memory_at_end e _ lost.0
    ended_with (computed.Printed t) Done (inl x) h = put_as file memory bytes name args v (ComputedWith (computed.Printed t) none items) (EndsWith Done lines out out' m) 0 (done_with t x) h
    ended_with (computed.Printed t) WriteFault (inl x) h = tt
    ended_with (computed.Printed t) (Failed u) (inl x) h = absurd x
    ended_with (computed.Printed t) Usage (inl x) h = tt
    ended_with (computed.Printed t) (Refused u) (inl x) h = tt
    ended_with (computed.Printed t) ReadFault (inl x) h = tt
    ended_with (computed.Printed t) NoMemory (inl x) h = tt
    ended_with (computed.Printed t) NoModule (inl x) h = tt
    ended_with (computed.Printed t) FolderFault (inl x) h = tt
    ended_with (computed.Failed t) e (inl x) h =
        subst (λ (e' : Ended). EndedAt e' (Came (EndsWith e' lines out out' m))) (sym x.0)
        (put_as file memory bytes name args v (ComputedWith (computed.Failed t) none items) (EndsWith (Failed t) lines out out' m) 1 (failed_so t x.1) h)
    ended_with (computed.Refused t) e (inl x) h = subst (λ (e' : Ended). EndedAt e' (Came (EndsWith e' lines out out' m))) (sym x.0) tt
    ended_with computed.NoMemory e (inl x) h = memory_at_end e _ x.0

-- ---- the command

module _ (v : Stretch) (mid : FolderView) (file location : PathView) (memory : Memory) (bytes : List ℕ) (parts : Parts v mid file location memory bytes) where
  -- own moves after the reading are all that there are
  own_over : (Kinds : Move → Type 0) → v.folder.told → OwnMoves v.folder.token Kinds (moved mid v.folder') → OwnMoves v.folder.token Kinds (moved v.folder v.folder')
  own_over Kinds t own =
      subst (OwnMoves v.folder.token Kinds) (sym (moved_then v.folder mid v.folder' (first v mid file location memory bytes parts t) (next v mid file location memory bytes parts t)))
      (OwnMoves-append v.folder.token Kinds (moved v.folder mid) (moved mid v.folder') (own_waits Kinds v.folder mid (parts.waits t)) own)

  -- what the cache did for a call, seen from the beginning of the run
  asked_later : (a : Asked) → v.folder.token ≡ a.token → (Puts : Output → List Warning → Type 0) (n : ℕ) → ComesAsked a (after_reading v mid) Puts n → ComesAsked a v Puts n
  asked_later a mine Puts n h = record {
    result = h.result;
    output = h.output;
    gives = h.gives;
    status = h.status;
    warnings = h.warnings;
    caused = all_over v mid file location memory bytes parts a mine h.warnings h.caused;
    puts = h.puts;
    answers = h.answers;
    counts = h.counts;
    comes = comes_later a v.folder mid v.folder' parts.keeps parts.keeps' begins parts.second h.result h.comes;
    tidy = λ t orderly. tidy_later a v.folder mid v.folder' parts.keeps parts.keeps' begins parts.second t h.result (h.tidy (parts.keeps.told t) (orderly_later v.folder mid v.folder' (begins t) (goes t) a.root orderly));
    done = λ t. done_later a v.folder mid v.folder' (begins t) (goes t) h.result h.warnings (h.done (parts.keeps.told t));
    moves = λ t.
        own_over (IsCalling h.result (entry_asked a) v.folder.token) t
        (subst (λ (u : List ℕ). OwnMoves u (IsCalling h.result (entry_asked a) u) (moved mid v.folder')) parts.keeps.token (h.moves (parts.keeps.told t)));
    clears = λ t. clears_over t (h.clears (parts.keeps.told t));
    files = λ t. files_over t (h.files (parts.keeps.told t));
    order = λ t.
        let e = entry_asked a in
        ordered_later (IsBeforeOutput e mid.token) (IsBeforeOutput e v.folder.token) Silent e (λ m k. absurd k) (λ m b. subst (λ (u : List ℕ). IsBeforeOutput e u m) parts.keeps.token b) v.folder mid v.folder' (moves_waits Silent v.folder mid parts.keeps.token (parts.waits t)) (goes t) h.result (h.order (parts.keeps.told t));
    clock = h.clock;
  }
    where
      begins : v.folder.told → GoesOn v.folder mid
      begins = first v mid file location memory bytes parts

      goes : v.folder.told → GoesOn mid v.folder'
      goes = next v mid file location memory bytes parts

      files_over : v.folder.told → PutsFiles h.result a v.host mid v.folder' → PutsFiles h.result a v.host v.folder v.folder'
      files_over t p =
          let P = IsProper a.root in
          let O = PutsCall a (texts a.code a.args p.value p.duration p.moment) in
          let K = IsCalling h.result (entry_asked a) v.folder.token in
          record {
            value = p.value;
            duration = p.duration;
            moment = p.moment;
            call = then_called P O K (IsTidy a.root) (IsTidy a.root) Anywhere v.folder mid v.folder'
                (waits_called P O K (IsTidy a.root) (IsTidy a.root) v.folder mid (carried_stable P v.folder.token (IsTidy a.root) (tidy_carried a.root)) (λ s tidy. tidy) parts.keeps.token (parts.waits t))
                (subst (λ (u : List ℕ). Called P O (IsCalling h.result (entry_asked a) u) (IsTidy a.root) Anywhere mid v.folder') parts.keeps.token p.call);
            kept = p.kept;
            timed = p.timed;
          }

      clears_over : v.folder.told → ClearsOnlyAnothers h.result (entry_asked a) a.code mid v.folder' → ClearsOnlyAnothers h.result (entry_asked a) a.code v.folder v.folder'
      clears_over t (inl own) =
          inl
          (own_over (IsWritingCall h.result (entry_asked a) v.folder.token) t
          (subst (λ (u : List ℕ). OwnMoves u (IsWritingCall h.result (entry_asked a) u) (moved mid v.folder')) parts.keeps.token own))
      clears_over t (inr had) = inr (opened_later v.folder mid v.folder' (begins t) (goes t) _ _ had)

  -- the same of what was computed, at the module that was read first
  call_comes : (name args : List ℕ) (Puts : Output → List Warning → Type 0) (c : Computed) → ComputedAt c (ComesCalled memory bytes name args (after_reading v mid) Puts) → (m : List ℕ) → module_name_of file ≡ Some m → ComputedAt c (ComesRead file (memory_at location m v.folder.token) bytes name args v Puts)
  call_comes name args Puts c comes m is =
      let same = named_memory memory file location m v.folder.token parts.located parts.named parts.by is in
      computed_map c _ _
      (λ n h. (parts.reads, subst (λ (x : Memory). ComesCalled x bytes name args v Puts n) same (h.0, asked_later (asked_by v.means memory bytes name args h.0) (sym parts.by) Puts n h.1)))
      comes

  -- and of how it ended
  pub written_comes : (name args : List ℕ) (out out' : SinkView) (c : Computed) (ended : Ended) (lines : List ℕ) (none items : List Warning) → none ≡ [] → WritesWarned c ended out out' → (lines ≡ warning_lines memory.«module» items) ⊎ ((lines ≡ []) × (ended ≡ NoMemory))
      → ComputedAt c (ComesCalled memory bytes name args (after_reading v mid) (ComputedWith c none items)) → CallComes file location bytes name args v (EndsWith ended lines out out') (EndedAt ended)
  written_comes name args out out' c ended lines none items empty writes (inr lost) comes m is = memory_at_end ended _ lost.1
  written_comes name args out out' c ended lines none items empty writes (inl said) comes m is =
      let same = named_memory memory file location m v.folder.token parts.located parts.named parts.by is in
      ended_with out out' lines m none items empty (subst (λ (x : Memory). lines ≡ warning_lines x.«module» items) same said) file (memory_at location m v.folder.token) bytes name args v c ended writes
      (call_comes name args (ComputedWith c none items) c comes m is)

-- ---- the run

-- from one claim to another, at a value and at an error
ended_map : (e : Ended) (P Q : ℕ → Type 0) → ((n : ℕ) → P n → Q n) → EndedAt e P → EndedAt e Q
ended_map Done P Q f p = f 0 p
ended_map (Failed t) P Q f p = f 1 p
ended_map Usage P Q f p = tt
ended_map (Refused t) P Q f p = tt
ended_map ReadFault P Q f p = tt
ended_map WriteFault P Q f p = tt
ended_map NoMemory P Q f p = tt
ended_map NoModule P Q f p = tt
ended_map FolderFault P Q f p = tt

module _ (out out' err err' : SinkView) (lines : List ℕ) (e : Ended) (n : ℕ) (at : n ≡ status_of e) (text : IsClear err err' → err'.written ≡ err.written ++ (lines ++ last_text e)) where
  -- the lines and then the last text are written
  put_out : (m : List ℕ) (o : Output) (added : List Warning) → EndsWith e lines out out' m o added → PutsOut out out' err err' m o added
  put_out m o added h = record { bytes = h.bytes; texts = λ clear. text clear ∙ (λ i. err.written ++ (h.lines i ++ sym h.text i)) }

  -- what a call came to, once the texts are written
  pub comes_at : (file location : PathView) (bytes name args : List ℕ) (v : Stretch) → CallComes file location bytes name args v (EndsWith e lines out out') (EndedAt e) → CallComes file location bytes name args v (PutsOut out out' err err') (StatusAt n)
  comes_at file location bytes name args v comes = λ m is.
      let memory = memory_at location m v.folder.token in
      subst (λ (k : ℕ). StatusAt k (ComesRead file memory bytes name args v (PutsOut out out' err err' m))) (sym at)
      (status_at e _
      (ended_map e (ComesRead file memory bytes name args v (EndsWith e lines out out' m)) (ComesRead file memory bytes name args v (PutsOut out out' err err' m))
      (λ k. put_as file memory bytes name args v (EndsWith e lines out out' m) (PutsOut out out' err err' m) k (put_out m))
      (comes m is)))
