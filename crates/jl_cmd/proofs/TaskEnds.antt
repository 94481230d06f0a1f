-- What a call asked of the cache, from its parts to the whole command.
use Rattle.std.proofs.Common.{◌≡◌, ◌⊎◌, inl, inr, ℕ, List, [], ◌∷◌, Some, refl, sym, subst}
use Rattle.std.specs.Prelude.{⊤}
use Rattle.jl_text.specs.Paths.{PathView}
use Rattle.jl_folder.specs.Views.{FolderView}
use Rattle.jl_streams.specs.Views.{SinkView}
use Rattle.jl_protocol.specs.Whole.{CodeAnswers}
use Rattle.jl_store.specs.declared.memory.Memory.{Memory}
use Rattle.jl_store.specs.declared.memory.Warning.{Warning}
use Rattle.jl_store.specs.declared.cached.Cached.{Cached}
use Rattle.jl_store.specs.declared.cached.Cached.TheVariants as cached
use Rattle.jl_store.specs.Asked.{Asked}
use Rattle.jl_store.specs.Stretch.{Point, point, between, reached}
use Rattle.jl_store.specs.Task.{PartsDid, IfAnswered, TaskDid, TasksDid, look_of}
use Rattle.jl_store.proofs.Retold.{retold, waits_retold, called_retold}
use Rattle.jl_store.proofs.TaskLemmas.{checked_retold, looked_retold, answered_retold}
use Rattle.jl_store.proofs.Tasks.{tasks_one}
use Rattle.jl_words.specs.ModuleNames.{module_name_of}
use Rattle.jl_cmd.specs.declared.computed.Computed.{Computed}
use Rattle.jl_cmd.specs.declared.computed.Computed.TheVariants as computed
use Rattle.jl_cmd.specs.declared.ended.Ended.{Ended}
use Rattle.jl_cmd.specs.declared.ended.Ended.TheVariants.{Done, Failed, Usage, Refused, ReadFault, WriteFault, NoMemory, NoModule, FolderFault}
use Rattle.jl_cmd.specs.Calling.{asked_by}
use Rattle.jl_cmd.specs.Coming.{IsOutputOf}
use Rattle.jl_cmd.specs.Computing.{Computes, IsPrinted, IsFailed, IsRefused, WritesWarned}
use Rattle.jl_cmd.specs.Course.{Stretch}
use Rattle.jl_cmd.specs.Met.{of_module}
use Rattle.jl_cmd.specs.Output.{Output}
use Rattle.jl_cmd.specs.Tasks.{IsComputedOf, AsksTask, EndsByTasks, DidTasks, CallTasks}
use Rattle.jl_cmd.specs.Texts.{warning_lines}
use Rattle.jl_cmd.proofs.CallingLemmas.{Parts, named_memory}

-- ---- what was computed

-- a text that was printed, of a value of the cache
pub printed_of : (r : Cached) (o : Output) (c : Computed) → Computes o ⊤ c → IsPrinted c → ((o' : Output) → o' ≡ o → IsOutputOf r o') → IsComputedOf r c
printed_of r o (computed.Printed t) computes is of = of _ (sym (computes tt))
printed_of r o (computed.Failed t) computes is of = absurd is
printed_of r o (computed.Refused t) computes is of = absurd is
printed_of r o computed.NoMemory computes is of = tt

-- the text of an error
pub failed_of : (r : Cached) (o : Output) (c : Computed) → Computes o ⊤ c → IsFailed c → ((o' : Output) → o' ≡ o → IsOutputOf r o') → IsComputedOf r c
failed_of r o (computed.Printed t) computes is of = absurd is
failed_of r o (computed.Failed t) computes is of = of _ (sym computes)
failed_of r o (computed.Refused t) computes is of = absurd is
failed_of r o computed.NoMemory computes is of = tt

-- ---- how it ended

module _ (out out' : SinkView) where
  -- by the answer of its one task
  ends_by : (r : Cached) (c : Computed) (e : Ended) → WritesWarned c e out out' → IsComputedOf r c → EndsByTasks (r ∷ []) out out' e
  ends_by r c e (inr lost) of = subst (λ (k : Ended). EndsByTasks (r ∷ []) out out' k) (sym lost.0) tt
  ends_by r (computed.Printed t) Done (inl x) of = (r, t, refl, of, x)
  ends_by r (computed.Printed t) WriteFault (inl x) of = (r, t, refl, of, x.1)
  ends_by r (computed.Printed t) (Failed u) (inl x) of = absurd x
  ends_by r (computed.Printed t) Usage (inl x) of = absurd x
  ends_by r (computed.Printed t) (Refused u) (inl x) of = absurd x
  ends_by r (computed.Printed t) ReadFault (inl x) of = absurd x
  ends_by r (computed.Printed t) NoMemory (inl x) of = tt
  ends_by r (computed.Printed t) NoModule (inl x) of = absurd x
  ends_by r (computed.Printed t) FolderFault (inl x) of = absurd x
  ends_by r (computed.Failed t) e (inl x) of = subst (λ (k : Ended). EndsByTasks (r ∷ []) out out' k) (sym x.0) (r, refl, of)
  ends_by r (computed.Refused t) e (inl x) of = absurd of
  ends_by r computed.NoMemory e (inl x) of = subst (λ (k : Ended). EndsByTasks (r ∷ []) out out' k) (sym x.0) tt

  -- where none was asked for
  ends_without : (c : Computed) (e : Ended) → WritesWarned c e out out' → IsRefused c → EndsByTasks [] out out' e
  ends_without c e (inr lost) is = subst (λ (k : Ended). EndsByTasks [] out out' k) (sym lost.0) tt
  ends_without (computed.Printed t) e (inl x) is = absurd is
  ends_without (computed.Failed t) e (inl x) is = absurd is
  ends_without (computed.Refused t) e (inl x) is = subst (λ (k : Ended). EndsByTasks [] out out' k) (sym x.0) refl
  ends_without computed.NoMemory e (inl x) is = subst (λ (k : Ended). EndsByTasks [] out out' k) (sym x.0) tt

-- ---- what was done

-- the same point, told if this is so
abbrev told_at : Type 0 → Point → Point
told_at t p = point (retold t p.folder) p.host p.calls p.warnings

module _ (answer : CodeAnswers) (a : Asked) (t : Type 0) (p q : Point) (f : t → p.folder.told) where
  parts_told : (r : Cached) → PartsDid answer a r p q → PartsDid answer a r (told_at t p) q
  parts_told r d = record {
    check = d.check;
    checked = d.checked;
    looked = d.looked;
    first = checked_retold a t t p (reached p d.checked) d.check (λ x. x) d.first;
    second = looked_retold a t t (reached p d.checked) (reached p d.looked) (look_of r) f (λ x. x) d.second;
    third = answered_retold a t (reached p d.looked) q f answer r d.third;
  }

  if_told : (r : Cached) → IfAnswered r (PartsDid answer a r p q) → IfAnswered r (PartsDid answer a r (told_at t p) q)
  if_told (cached.Hit v) d = parts_told (cached.Hit v) d
  if_told (cached.Computed v) d = parts_told (cached.Computed v) d
  if_told (cached.Error e) d = parts_told (cached.Error e) d
  if_told cached.NoMemory d = tt

  -- a task, from a point that tells for another reason
  task_told : (r : Cached) → TaskDid answer a r p q → TaskDid answer a r (told_at t p) q
  task_told r d = record {
    call = called_retold t q.folder.told p.folder q.folder _ _ _ _ _ d.call;
    folder = record { told = λ x. d.folder.told (f x); token = d.folder.token; opens = d.folder.opens; later = d.folder.later };
    host = d.host;
    counts = d.counts;
    parts = if_told r d.parts;
  }

-- no task
tasks_none : (answer : CodeAnswers) (p q : Point) → between q ≡ between p → TasksDid answer [] [] p q
unfolding TasksDid
tasks_none answer p q same = same

-- ---- the command

module _ (v : Stretch) (mid : FolderView) (file location : PathView) (memory : Memory) (bytes : List ℕ) (parts : Parts v mid file location memory bytes) where
  pub call_tasks : (name args : List ℕ) (out out' : SinkView) (c : Computed) (e : Ended) (said : List ℕ) (none items : List Warning) → none ≡ [] → WritesWarned c e out out' → (said ≡ warning_lines memory.«module» items) ⊎ ((said ≡ []) × (e ≡ NoMemory))
      → (mid.told → AsksTask v.means memory bytes name args c (point mid v.host v.calls none) (point v.folder' v.host' v.calls' items)) → CallTasks file location name args v (of_module bytes) out out' e said
  call_tasks name args out out' c e said none items empty writes lines asks told m is =
      subst (λ (x : Memory). DidTasks file x bytes name args v out out' e said) (named_memory memory file location m v.folder.token parts.located parts.named parts.by is)
      (all (asks (parts.keeps.told told)))
    where
      all : AsksTask v.means memory bytes name args c (point mid v.host v.calls none) (point v.folder' v.host' v.calls' items) → DidTasks file memory bytes name args v out out' e said
      all (inl h) = record {
        read = between (point mid v.host v.calls none);
        asked = [];
        results = [];
        warnings = items;
        reads = parts.reading told;
        waits = waits_retold v.folder.told v.folder.told v.folder mid (parts.waits told);
        calls = refl;
        clock = refl;
        unwarned = empty;
        are = tt;
        did = tasks_none v.means.answer (told_at v.folder.told (point mid v.host v.calls none)) (point v.folder' v.host' v.calls' items) h.1;
        ends = ends_without out out' c e writes h.0;
        lines = lines;
      }
      all (inr h) =
          let a = asked_by v.means memory bytes name args h.0 in
          record {
            read = between (point mid v.host v.calls none);
            asked = a ∷ [];
            results = h.1.0 ∷ [];
            warnings = items;
            reads = parts.reading told;
            waits = waits_retold v.folder.told v.folder.told v.folder mid (parts.waits told);
            calls = refl;
            clock = refl;
            unwarned = empty;
            are = (h.0, refl);
            did = tasks_one v.means.answer a h.1.0 (told_at v.folder.told (point mid v.host v.calls none)) (point v.folder' v.host' v.calls' items) (task_told v.means.answer a v.folder.told (point mid v.host v.calls none) (point v.folder' v.host' v.calls' items) parts.keeps.told h.1.0 h.1.2);
            ends = ends_by out out' h.1.0 c e writes h.1.1;
            lines = lines;
          }
