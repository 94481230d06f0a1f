-- The tasks of a call: what it asked of the cache once its module was read, and what each of these
-- cached calls did.
use Rattle.std.specs.Prelude.{◌≡◌, ◌⊎◌, ℕ, List, [], ◌∷◌, ◌++◌, Some, ⊤}
use Rattle.jl_text.specs.Paths.{PathView}
use Rattle.jl_folder.specs.Calls.{Waits}
use Rattle.jl_streams.specs.Streams.{WritesPrefix}
use Rattle.jl_streams.specs.Views.{SinkView}
use Rattle.jl_protocol.specs.Whole.{CodeAnswers}
use Rattle.jl_store.specs.declared.memory.Memory.{Memory}
use Rattle.jl_store.specs.declared.memory.Warning.{Warning}
use Rattle.jl_store.specs.declared.cached.Cached.{Cached}
use Rattle.jl_store.specs.Asked.{Asked}
use Rattle.jl_store.specs.Stretch.{Point, Between, point, between, folder_at, reached}
use Rattle.jl_store.specs.Task.{TaskDid, TasksDid}
use Rattle.jl_words.specs.ModuleNames.{module_name_of}
use Rattle.jl_cmd.specs.declared.computed.Computed.{Computed}
use Rattle.jl_cmd.specs.declared.computed.Computed.TheVariants as computed
use Rattle.jl_cmd.specs.declared.ended.Ended.{Ended}
use Rattle.jl_cmd.specs.declared.ended.Ended.TheVariants.{Done, Failed, Usage, Refused, ReadFault, WriteFault, NoMemory, NoModule, FolderFault}
use Rattle.jl_cmd.specs.Calling.{Asks, asked_by, memory_at}
use Rattle.jl_cmd.specs.Coming.{IsOutputOf}
use Rattle.jl_cmd.specs.Computing.{IsRefused}
use Rattle.jl_cmd.specs.Course.{Meanings, Stretch}
use Rattle.jl_cmd.specs.Endings.{ReadFrom}
use Rattle.jl_cmd.specs.Met.{Met, of_nothing, of_module, of_report}
use Rattle.jl_cmd.specs.Statuses as status
use Rattle.jl_cmd.specs.Texts.{warning_lines}

-- ---- what is computed

-- this was computed of what the cache answered
abbrev pub IsComputedOf : Cached → Computed → Type 0
IsComputedOf r (computed.Printed t) = IsOutputOf r (record { bytes = t; status = status.done; text = [] })
IsComputedOf r (computed.Failed t) = IsOutputOf r (record { bytes = []; status = status.task_error; text = t })
IsComputedOf r (computed.Refused t) = ⊥
IsComputedOf r computed.NoMemory = ⊤

-- a task was asked of the cache, and this was computed of its answer
abbrev pub ComputesTask : CodeAnswers → Asked → Computed → (before after : Point) → Type 0
ComputesTask answer a c before after = (r : Cached) × IsComputedOf r c × TaskDid answer a r before after

-- A call asked for its one task; or for none, where something was refused or memory was wanting
-- before, and then all is as it was.
abbrev pub AsksTask : Meanings → Memory → (bytes name args : List ℕ) → Computed → (before after : Point) → Type 0
AsksTask means memory bytes name args c before after =
    (IsRefused c × (between after ≡ between before))
    ⊎ ((q : Asks means bytes name args) × ComputesTask means.answer (asked_by means memory bytes name args q) c before after)

-- ---- a command

-- the tasks of a call: the one of its function and its arguments, or none
abbrev pub AreTasks : Meanings → Memory → (bytes name args : List ℕ) → List Asked → Type 0
AreTasks means memory bytes name args [] = ⊤
AreTasks means memory bytes name args (a ∷ []) = (q : Asks means bytes name args) × (a ≡ asked_by means memory bytes name args q)
AreTasks means memory bytes name args (a ∷ b ∷ tasks) = ⊥

-- What the tasks of a call answered, by how it ended: one value, which was put out, or at a write
-- fault a front of it; one error of the function, whose text is still to be written; or nothing,
-- where something was refused. For want of memory it may have ended before or after its task.
abbrev pub EndsByTasks : List Cached → (out out' : SinkView) → Ended → Type 0
EndsByTasks results out out' Done =
    (r : Cached) × (t : List ℕ) × (results ≡ r ∷ []) × IsOutputOf r (record { bytes = t; status = status.done; text = [] }) × (out.told → out'.written ≡ out.written ++ t)
EndsByTasks results out out' (Failed t) = (r : Cached) × (results ≡ r ∷ []) × IsOutputOf r (record { bytes = []; status = status.task_error; text = t })
EndsByTasks results out out' (Refused t) = results ≡ []
EndsByTasks results out out' WriteFault =
    (r : Cached) × (t : List ℕ) × (results ≡ r ∷ []) × IsOutputOf r (record { bytes = t; status = status.done; text = [] }) × (out.told → WritesPrefix t out.written out'.written)
EndsByTasks results out out' NoMemory = ⊤
EndsByTasks results out out' Usage = results ≡ []
EndsByTasks results out out' ReadFault = results ≡ []
EndsByTasks results out out' NoModule = results ≡ []
EndsByTasks results out out' FolderFault = results ≡ []

-- What a call did that has read its module's file: by some point the file was read, while the call
-- itself moved nothing, called nothing, read no clock and warned of nothing; and from there to its
-- end it did its tasks, one after the other, and nothing else. They added these warnings, whose
-- lines are still to be written, unless memory was wanting for them.
pub record DidTasks (file : PathView) (memory : Memory) (bytes name args : List ℕ) (v : Stretch) (out out' : SinkView) (e : Ended) (said : List ℕ) : Type 0 where
  pub read : Between
  pub asked : List Asked
  pub results : List Cached
  pub warnings : List Warning
  pub reads : ReadFrom file bytes v.folder (folder_at v.folder.told read)
  pub waits : Waits v.folder (folder_at v.folder.told read)
  pub calls : read.calls ≡ v.calls
  pub clock : read.moments ≡ v.host.moments
  pub unwarned : read.warnings ≡ []
  pub are : AreTasks v.means memory bytes name args asked
  pub did : TasksDid v.means.answer asked results (reached (point v.folder v.host v.calls []) read) (point v.folder' v.host' v.calls' warnings)
  pub ends : EndsByTasks results out out' e
  pub lines : (said ≡ warning_lines memory.«module» warnings) ⊎ ((said ≡ []) × (e ≡ NoMemory))

-- the same of a call that met a module's bytes, where the folder tells
abbrev pub CallTasks : (file location : PathView) → (name args : List ℕ) → Stretch → Met → (out out' : SinkView) → Ended → (said : List ℕ) → Type 0
CallTasks file location name args v of_nothing out out' e said = ⊤
CallTasks file location name args v (of_module bytes) out out' e said =
    v.folder.told → (m : List ℕ) → module_name_of file ≡ Some m → DidTasks file (memory_at location m v.folder.token) bytes name args v out out' e said
CallTasks file location name args v (of_report count bytes) out out' e said = ⊤
