-- What a call of a function does over the cache folder: of what it warns, and what it leaves where no other moved.
use Rattle.std.specs.Prelude.{◌≡◌, ◌⊎◌, ℕ, List, [], ◌++◌, None, Some, Ok, ⊤}
use Rattle.jl_text.specs.Paths.{PathView}
use Rattle.jl_folder.specs.Views.{FolderView, state}
use Rattle.jl_entry.specs.Entry.{Members}
use Rattle.jl_store.specs.declared.memory.Memory.{Memory}
use Rattle.jl_store.specs.declared.memory.Warning.{Warning}
use Rattle.jl_store.specs.declared.cached.Cached.{Cached}
use Rattle.jl_store.specs.declared.cached.Cached.TheVariants as cached
use Rattle.jl_store.specs.Cached.{IsAnswer, CountsCall}
use Rattle.jl_store.specs.Asked.{Asked, asked}
use Rattle.jl_store.specs.Next.{LeavesNext, AreTimed}
use Rattle.jl_store.specs.Warned.{AreCaused}
use Rattle.jl_cmd.specs.declared.computed.Computed.{Computed}
use Rattle.jl_cmd.specs.declared.computed.Computed.TheVariants as computed
use Rattle.jl_cmd.specs.declared.ended.Ended.{Ended}
use Rattle.jl_cmd.specs.declared.ended.Ended.TheVariants.{Done, Failed, Usage, Refused, ReadFault, WriteFault, NoMemory, NoModule, FolderFault}
use Rattle.jl_cmd.specs.Arguments.{arguments_of}
use Rattle.jl_cmd.specs.Output.{module_fault_of}
use Rattle.jl_cmd.specs.Course.{Meanings, Stretch}
use Rattle.jl_cmd.specs.Endings.{ReadFrom}
use Rattle.jl_cmd.specs.Statuses as status

-- ---- what is asked

-- the bytes are a module without a fault, which gives the name a code, and the text gives arguments
pub record Asks (means : Meanings) (bytes name args : List ℕ) : Type 0 where
  pub faultless : module_fault_of means.fault bytes ≡ None
  pub found : List ℕ
  pub members : Members
  pub defined : means.code bytes name ≡ Some found
  pub given : arguments_of args ≡ Ok members

-- what the cache is asked then
abbrev pub asked_by : (means : Meanings) → Memory → (bytes name args : List ℕ) → Asks means bytes name args → Asked
asked_by means memory bytes name args q = asked memory name q.found (means.line bytes name) q.members

-- the cache below a location, for the module of this name, by the run of a token
abbrev pub memory_at : PathView → (m token : List ℕ) → Memory
memory_at location m token = record { location = location; «module» = m; token = token }

-- ---- warnings

-- a call added these warnings: none, or such as have their cause in what the cache was asked
abbrev pub CallWarns : Meanings → Memory → (bytes name args : List ℕ) → (old new : FolderView) → (warnings warnings' : List Warning) → Type 0
CallWarns means memory bytes name args old new ws ws' =
    (added : List Warning) × (ws' ≡ ws ++ added) × ((added ≡ []) ⊎ ((q : Asks means bytes name args) × AreCaused added (asked_by means memory bytes name args q) old new))

-- warnings of a call: none, or such as are on this function and these arguments, and have their cause by the code that the module's bytes,
-- as this run read them, give the function
abbrev pub AreOfCall : Meanings → (file : PathView) → Memory → (bytes name args : List ℕ) → (old new : FolderView) → List Warning → Type 0
AreOfCall means file memory bytes name args old new ws =
    (ws ≡ []) ⊎ ((old.told → ReadFrom file bytes old new) × (q : Asks means bytes name args) × AreCaused ws (asked_by means memory bytes name args q) old new)

-- ---- what a lone call leaves

-- the status of a call that the cache answered so
abbrev pub IsStatusOf : Cached → ℕ → Type 0
IsStatusOf (cached.Hit v) n = n ≡ status.done
IsStatusOf (cached.Computed v) n = n ≡ status.done
IsStatusOf (cached.Error e) n = n ≡ status.task_error
IsStatusOf cached.NoMemory n = ⊥

-- The cache answered what the library answers, and left the folder so: the code checked, and then the answer found or kept. The library's count
-- rose exactly where no entry stood once the code was checked. The moments are those of the clock, where that tells.
pub record LeavesAsked (a : Asked) (v : Stretch) (n : ℕ) : Type 0 where
  pub result : Cached
  pub status : IsStatusOf result n
  pub answers : IsAnswer result (v.means.answer a.code a.args) ⊤
  pub counts : CountsCall result v.calls v.calls'
  pub duration : ℕ
  pub moment : ℕ
  pub leaves : LeavesNext result a duration moment (state v.folder) (state v.folder')
  pub timed : v.host.told → AreTimed result duration moment v.host

-- the same of a module's bytes and a text of arguments
abbrev pub LeavesCalled : Memory → (bytes name args : List ℕ) → Stretch → (n : ℕ) → Type 0
LeavesCalled memory bytes name args v n = (q : Asks v.means bytes name args) × LeavesAsked (asked_by v.means memory bytes name args q) v n

-- the same of the module's bytes as this run read them
abbrev pub LeavesRead : (file : PathView) → Memory → (bytes name args : List ℕ) → Stretch → (n : ℕ) → Type 0
LeavesRead file memory bytes name args v n = ReadFrom file bytes v.folder v.folder' × LeavesCalled memory bytes name args v n

-- a claim on the status of a value or of an error of the function
abbrev pub ComputedAt : Computed → (ℕ → Type 0) → Type 0
ComputedAt (computed.Printed t) P = P status.done
ComputedAt (computed.Failed t) P = P status.task_error
ComputedAt (computed.Refused t) P = ⊤
ComputedAt computed.NoMemory P = ⊤

abbrev pub EndedAt : Ended → (ℕ → Type 0) → Type 0
EndedAt Done P = P status.done
EndedAt (Failed t) P = P status.task_error
EndedAt Usage P = ⊤
EndedAt (Refused t) P = ⊤
EndedAt ReadFault P = ⊤
EndedAt WriteFault P = ⊤
EndedAt NoMemory P = ⊤
EndedAt NoModule P = ⊤
EndedAt FolderFault P = ⊤
