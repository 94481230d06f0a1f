-- What a call of a function did, by its parts.
use Rattle.std.proofs.Common.{◌≡◌, ◌⊎◌, inl, ℕ, List, [], refl, subst}
use Rattle.jl_text.specs.Paths.{PathView}
use Rattle.jl_text.specs.Counts.{Rose}
use Rattle.jl_folder.specs.declared.moves.Move.{Move}
use Rattle.jl_folder.specs.Views.{FolderView, state, moved}
use Rattle.jl_folder.specs.Calls.{Waits}
use Rattle.jl_streams.specs.Views.{SinkView}
use Rattle.jl_rely.specs.Steps.{IsLone, OwnMoves}
use Rattle.jl_rely.specs.Claims.{AnyMove}
use Rattle.jl_rely.proofs.Composed.{goes_waits}
use Rattle.jl_entry.specs.Names.{root_of}
use Rattle.jl_protocol.specs.Tidy.{IsSound}
use Rattle.jl_protocol.specs.Proper.{LawfulThroughout}
use Rattle.jl_protocol.proofs.Before.{one_value}
use Rattle.jl_store.specs.declared.memory.Memory.{Memory}
use Rattle.jl_store.specs.declared.memory.Warning.{Warning}
use Rattle.jl_store.specs.Stretch.{point}
use Rattle.jl_store.specs.Trust.{IsTrusted}
use Rattle.jl_store.proofs.Lawfully.{lawful_waits, lawful_then, trusted_later}
use Rattle.jl_words.specs.ModuleNames.{module_name_of}
use Rattle.jl_cmd.specs.declared.computed.Computed.{Computed}
use Rattle.jl_cmd.specs.declared.ended.Ended.{Ended}
use Rattle.jl_cmd.specs.declared.ended.Ended.TheVariants.{Done, Failed, Usage, Refused, ReadFault, WriteFault, NoMemory, NoModule, FolderFault}
use Rattle.jl_cmd.specs.Course.{Stretch}
use Rattle.jl_cmd.specs.Output.{call_output}
use Rattle.jl_cmd.specs.Caches.{CallsLawfully, IsOfCall, CallsIn}
use Rattle.jl_cmd.specs.Calling.{CallWarns, LeavesCalled, ComputedAt, EndedAt}
use Rattle.jl_cmd.specs.Coming.{ComputedWith, ComesCalled}
use Rattle.jl_cmd.specs.of.Call.{CallEnds, CallEnded}
use Rattle.jl_cmd.specs.Endings.{EndsComputed}
use Rattle.jl_cmd.specs.Met.{of_nothing, of_module}
use Rattle.jl_cmd.specs.Computing.{Computes, Counts, Calls, IsRefusal, WritesWarned}
use Rattle.jl_cmd.specs.Tasks.{AsksTask}
use Rattle.jl_cmd.specs.Texts.{warning_lines}
use Rattle.jl_cmd.proofs.CallingLemmas.{Parts, after_reading, call_lines, call_leaves, written_at}
use Rattle.jl_cmd.proofs.ComingLemmas.{written_comes}
use Rattle.jl_cmd.proofs.EndingLemmas.{finishes_so, computes_under}
use Rattle.jl_cmd.proofs.IdleLemmas.{written_refusal, own_waits, silent_waits}
use Rattle.jl_cmd.proofs.TaskEnds.{call_tasks}

module _ (v : Stretch) (file location : PathView) (name args : List ℕ) (out : SinkView) where
  abbrev Trusts : Type 0
  Trusts = IsTrusted (root_of location) v.means.answer v.folder v.folder'

  -- while others moved alone, each own move is as it should be
  calls_in : (v.folder.told → Waits v.folder v.folder') → v.folder'.token ≡ v.folder.token → v.folder.told → CallsIn file location name v.means.answer v.folder v.folder'
  unfolding LawfulThroughout
  calls_in waits same told = record {
    stays = λ m is. own_waits (IsOfCall (root_of location) m name v.folder.token) v.folder v.folder' (waits told);
    lawful = (lawful_waits (root_of location) v.means.answer AnyMove v.folder v.folder' same (waits told)).owes;
  }

  -- a call that ended before its function was asked for
  pub call_stopped : (e : Ended) (said : List ℕ) → ((P : ℕ → Type 0) → EndedAt e P) → Calls e v.calls v.calls' → CallEnds file location name args v of_nothing out out e → v.folder'.token ≡ v.folder.token → (v.folder.told → Waits v.folder v.folder') → v.host'.moments ≡ v.host.moments → said ≡ [] → CallEnded file location name args v out out e said
  call_stopped e said none counts ends same waits clock silent = record {
    met = of_nothing;
    ends = ends;
    lawful = λ told. calls_in waits same told;
    went = λ told. goes_waits v.folder v.folder' same (waits told);
    did = record {
      calls = counts;
      idle = λ told un. silent_waits v.folder v.folder' (waits told);
      clock = λ told un. clock;
      lines = λ m is. ([], silent, inl refl);
      alone = λ told m is lone sound rose. none _;
      comes = λ m is. none _;
      tasks = tt;
    };
  }

  module _ (mid : FolderView) (memory : Memory) (bytes : List ℕ) (parts : Parts v mid file location memory bytes) (out' : SinkView) where
    -- the kinds of the moves of the call, as its memory says them
    abbrev Kinds : Move → Type 0
    Kinds = IsOfCall (root_of location) memory.«module» name v.folder.token

    lawful_over : (v.folder.told → CallsLawfully location v.means.answer Kinds mid v.folder') → v.folder.told → CallsLawfully location v.means.answer Kinds v.folder v.folder'
    lawful_over lawful told =
        lawful_then (root_of location) v.means.answer Kinds v.folder mid v.folder' (lawful_waits (root_of location) v.means.answer Kinds v.folder mid parts.keeps.token (parts.waits told)) (lawful told)

    -- what rests on the whole run rests on its second part
    trusts : (v.folder.told → CallsLawfully location v.means.answer Kinds mid v.folder') → IsTrusted (root_of location) v.means.answer v.folder v.folder' → IsTrusted (root_of location) v.means.answer mid v.folder'
    trusts lawful trust =
        trusted_later (root_of location) v.means.answer v.folder mid v.folder' Kinds (lawful_waits (root_of location) v.means.answer Kinds v.folder mid parts.keeps.token (parts.waits trust.0)) (lawful trust.0).went (parts.keeps.told trust.0) trust

    -- it ends as its output is written
    ends_read : (e : Ended) → EndsComputed (call_output v.means bytes name args) Trusts out out' e → CallEnds file location name args v (of_module bytes) out out' e
    ends_read Done h = (parts.reads, h)
    ends_read (Failed t) h = (parts.reads, h)
    ends_read (Refused t) h = (parts.reads, h)
    ends_read WriteFault h = (parts.reads, h)
    ends_read NoMemory h = h
    ends_read Usage h = absurd h
    ends_read ReadFault h = absurd h
    ends_read NoModule h = absurd h
    ends_read FolderFault h = absurd h

    -- a call whose module was read
    pub call_read : (c : Computed) (e : Ended) (said : List ℕ) (none items : List Warning) → none ≡ [] → (v.folder.told → CallsLawfully location v.means.answer Kinds mid v.folder') → Computes (call_output v.means bytes name args) (IsTrusted (root_of location) v.means.answer mid v.folder') c → Counts c v.calls v.calls' → CallWarns v.means memory bytes name args mid v.folder' none items
        → (mid.told → IsLone mid.token (moved mid v.folder') → IsSound (root_of memory.location) v.means.answer (state mid) → (Rose mid.faults v.folder'.faults → ⊥) → ComputedAt c (LeavesCalled memory bytes name args (after_reading v mid)))
        → ComputedAt c (ComesCalled memory bytes name args (after_reading v mid) (ComputedWith c none items)) → (mid.told → AsksTask v.means memory bytes name args c (point mid v.host v.calls none) (point v.folder' v.host' v.calls' items)) → (IsRefusal c → v.folder.told → Waits v.folder v.folder') → (IsRefusal c → v.host'.moments ≡ v.host.moments) → WritesWarned c e out out' → ((old new : ℕ) → Counts c old new → Calls e old new)
        → (said ≡ warning_lines memory.«module» items) ⊎ ((said ≡ []) × (e ≡ NoMemory)) → CallEnded file location name args v out out' e said
    unfolding LawfulThroughout
    call_read c e said none items empty lawful computes counts warns leaves comes task refuses stands writes calls lines = record {
      met = of_module bytes;
      ends =
          ends_read e
          (finishes_so (call_output v.means bytes name args) Trusts out out' c e
          (computes_under (call_output v.means bytes name args) (IsTrusted (root_of location) v.means.answer mid v.folder') Trusts c (trusts lawful) computes)
          writes);
      lawful = λ told.
          let done = lawful_over lawful told in
          record {
            stays = λ m is.
                subst (λ (k : List ℕ). OwnMoves v.folder.token (IsOfCall (root_of location) k name v.folder.token) (moved v.folder v.folder')) (one_value (module_name_of file) memory.«module» m parts.named is) done.own;
            lawful = done.owes;
          };
      went = λ told. (lawful_over lawful told).went;
      did = record {
        calls = calls v.calls v.calls' counts;
        idle = λ told un. silent_waits v.folder v.folder' (refuses (written_refusal c e out out' writes un) told);
        clock = λ told un. stands (written_refusal c e out out' writes un);
        lines = call_lines v mid file location memory bytes parts name args said e none items empty lines warns;
        alone = λ told m is lone sound rose. written_at c e _ out out' writes (call_leaves v mid file location memory bytes parts name args c leaves told m is lone sound rose);
        comes = written_comes v mid file location memory bytes parts name args out out' c e said none items empty writes lines comes;
        tasks = call_tasks v mid file location memory bytes parts name args out out' c e said none items empty writes lines task;
      };
    }

-- in other words
pub ended_as : (file location : PathView) (name args : List ℕ) (v : Stretch) (out out' : SinkView) (e e' : Ended) (said said' : List ℕ) → e ≡ e' → said ≡ said' → CallEnded file location name args v out out' e said → CallEnded file location name args v out out' e' said'
ended_as file location name args v out out' e e' said said' p q h =
    subst (λ (t : List ℕ). CallEnded file location name args v out out' e' t) q (subst (λ (k : Ended). CallEnded file location name args v out out' k said) p h)
