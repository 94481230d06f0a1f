-- What a call of a function did, before its texts are written.
use Rattle.std.specs.Prelude.{◌≡◌, ℕ, List, Some}
use Rattle.jl_text.specs.Paths.{PathView}
use Rattle.jl_text.specs.Counts.{Rose}
use Rattle.jl_folder.specs.Views.{state, moved}
use Rattle.jl_streams.specs.Views.{SinkView}
use Rattle.jl_rely.specs.Claims.{GoesOn}
use Rattle.jl_rely.specs.Steps.{IsLone}
use Rattle.jl_entry.specs.Names.{root_of}
use Rattle.jl_protocol.specs.Tidy.{IsSound}
use Rattle.jl_store.specs.declared.memory.Memory.{Memory}
use Rattle.jl_store.specs.declared.memory.Warning.{Warning}
use Rattle.jl_store.specs.Stretch.{point}
use Rattle.jl_store.specs.Trust.{IsTrusted}
use Rattle.jl_words.specs.ModuleNames.{module_name_of}
use Rattle.jl_cmd.specs.declared.computed.Computed.{Computed}
use Rattle.jl_cmd.specs.declared.ended.Ended.{Ended}
use Rattle.jl_cmd.specs.declared.ended.Ended.TheVariants.{Usage, ReadFault, NoMemory, NoModule, FolderFault}
use Rattle.jl_cmd.specs.Calling.{memory_at, CallWarns, AreOfCall, LeavesCalled, LeavesRead, ComputedAt, EndedAt}
use Rattle.jl_cmd.specs.Caches.{CallsLawfully, IsOfCall, CallsIn, MakesNone}
use Rattle.jl_cmd.specs.Coming.{ComputedWith, ComesCalled, CallComes, EndsWith}
use Rattle.jl_cmd.specs.Computing.{Counts, Calls}
use Rattle.jl_cmd.specs.Course.{Stretch}
use Rattle.jl_cmd.specs.Endings.{EndsComputed, LacksTold, WritesNothing, status_of}
use Rattle.jl_cmd.specs.Met.{Met, ReadModuleFrom, bytes_in}
use Rattle.jl_cmd.specs.Output.{call_output}
use Rattle.jl_cmd.specs.Tasks.{AsksTask, CallTasks}
use Rattle.jl_cmd.specs.Texts.{warning_lines}
use Rattle.jl_cmd.specs.Uncalled.{IsUncalled}

-- ---- what is computed

-- What a call of a name, over a module's bytes, a text of arguments and the cache, did to come to this, with the warnings that it added: lawful moves of its
-- own function; the library's count; of what it warns; what a lone call leaves; how it came to its answer; and the task that it asked of the cache
pub record ComputesCall (memory : Memory) (bytes name args : List ℕ) (v : Stretch) (c : Computed) (warnings warnings' : List Warning) : Type 0 where
  pub lawful : v.folder.told
      → CallsLawfully memory.location v.means.answer (IsOfCall (root_of memory.location) memory.«module» name v.folder.token) v.folder v.folder'
  pub calls : Counts c v.calls v.calls'
  pub warns : CallWarns v.means memory bytes name args v.folder v.folder' warnings warnings'
  pub alone : v.folder.told → IsLone v.folder.token (moved v.folder v.folder') → IsSound (root_of memory.location) v.means.answer (state v.folder)
      → (Rose v.folder.faults v.folder'.faults → ⊥) → ComputedAt c (LeavesCalled memory bytes name args v)
  pub comes : ComputedAt c (ComesCalled memory bytes name args v (ComputedWith c warnings warnings'))
  pub task : v.folder.told → AsksTask v.means memory bytes name args c (point v.folder v.host v.calls warnings) (point v.folder' v.host' v.calls' warnings')

-- ---- what is said and left

-- the lines of the warnings of a call of a module's function, over the bytes that were read of that
abbrev pub CallSays : (file location : PathView) → (bytes name args : List ℕ) → Stretch → List ℕ → Type 0
CallSays file location bytes name args v lines =
    (m : List ℕ) → module_name_of file ≡ Some m
    → (ws : List Warning) × (lines ≡ warning_lines m ws) × AreOfCall v.means file (memory_at location m v.folder.token) bytes name args v.folder v.folder' ws

-- Where the folder tells and was sound, no other moved and no fault of it rose, a call that told a value or an error of its function left the
-- folder as the cached call does
abbrev pub CallLeaves : (file location : PathView) → (bytes name args : List ℕ) → Stretch → ((ℕ → Type 0) → Type 0) → Type 0
CallLeaves file location bytes name args v At =
    v.folder.told → (m : List ℕ) → module_name_of file ≡ Some m → IsLone v.folder.token (moved v.folder v.folder') → IsSound (root_of location) v.means.answer (state v.folder)
    → (Rose v.folder.faults v.folder'.faults → ⊥) → At (LeavesRead file (memory_at location m v.folder.token) bytes name args v)

-- ---- what is done

-- a call of the function of this name of the module in a file ended so, by what was met, with the lines of its warnings still to be written: the
-- library's count; no move and no reading of the clock where none was called; its warnings; what a lone call left; how it came to its answer; and
-- its tasks, once the module was read
pub record CallDid (file location : PathView) (name args : List ℕ) (v : Stretch) (met : Met) (out out' : SinkView) (e : Ended) (said : List ℕ) : Type 0 where
  pub calls : Calls e v.calls v.calls'
  pub idle : v.folder.told → IsUncalled (status_of e) → MakesNone v.folder v.folder'
  pub clock : v.host.told → IsUncalled (status_of e) → v.host'.moments ≡ v.host.moments
  pub lines : CallSays file location (bytes_in met) name args v said
  pub alone : CallLeaves file location (bytes_in met) name args v (EndedAt e)
  pub comes : CallComes file location (bytes_in met) name args v (EndsWith e said out out') (EndedAt e)
  pub tasks : CallTasks file location name args v met out out' e said

-- its output was computed from the bytes that were read and written so; or the file was lacked, or the folder's faults rose, or memory was wanting
abbrev pub CallEnds : (file location : PathView) → (name args : List ℕ) → Stretch → Met → (out out' : SinkView) → Ended → Type 0
CallEnds file location name args v met out out' NoMemory = WritesNothing out out'
CallEnds file location name args v met out out' NoModule = LacksTold (Some file) v.folder v.folder' × WritesNothing out out'
CallEnds file location name args v met out out' FolderFault = Rose v.folder.faults v.folder'.faults × WritesNothing out out'
CallEnds file location name args v met out out' Usage = ⊥
CallEnds file location name args v met out out' ReadFault = ⊥
CallEnds file location name args v met out out' e =
    ReadModuleFrom file v.folder v.folder' met × EndsComputed (call_output v.means (bytes_in met) name args) (IsTrusted (root_of location) v.means.answer v.folder v.folder') out out' e

-- a call met this, ended so by lawful moves of its own, and did that
pub record CallEnded (file location : PathView) (name args : List ℕ) (v : Stretch) (out out' : SinkView) (e : Ended) (said : List ℕ) : Type 0 where
  pub met : Met
  pub ends : CallEnds file location name args v met out out' e
  pub lawful : v.folder.told → CallsIn file location name v.means.answer v.folder v.folder'
  pub went : v.folder.told → GoesOn v.folder v.folder'
  pub did : CallDid file location name args v met out out' e said
