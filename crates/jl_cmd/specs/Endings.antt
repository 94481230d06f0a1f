-- How a run ends: what was read and written by then, and why.
use Rattle.std.specs.Prelude.{◌≡◌, ℕ, ◌+◌, List, [], ◌++◌, false, Option, Some, None, codes, ⊤}
use Rattle.jl_text.specs.Paths.{PathView}
use Rattle.jl_text.specs.Counts.{Rose}
use Rattle.jl_text.specs.declared.limits.TheConstants.{MOST_TEXT_BYTES}
use Rattle.jl_folder.specs.State.{AtSome, is_file}
use Rattle.jl_folder.specs.Views.{FolderView, state, moved}
use Rattle.jl_folder.specs.Reading.{ReadsNamed}
use Rattle.jl_streams.specs.Streams.{WritesPrefix}
use Rattle.jl_streams.specs.Views.{SinkView}
use Rattle.jl_cmd.specs.Course.{Course}
use Rattle.jl_cmd.specs.Commands.{Command}
use Rattle.jl_cmd.specs.declared.ended.Ended.{Ended}
use Rattle.jl_cmd.specs.declared.ended.Ended.TheVariants.{Done, Failed, Usage, Refused, ReadFault, WriteFault, NoMemory, NoModule, FolderFault}
use Rattle.jl_cmd.specs.Needs.{needs_given, IsGiven, AreReading, MayFault}
use Rattle.jl_cmd.specs.Output.{Output}
use Rattle.jl_cmd.specs.Statuses as status
use Rattle.jl_cmd.specs.Texts.{error_line}

-- the status of an ending
abbrev pub status_of : Ended → ℕ
status_of Done = status.done
status_of (Failed t) = status.task_error
status_of Usage = status.usage
status_of (Refused t) = status.refused
status_of ReadFault = status.read_fault
status_of WriteFault = status.write_fault
status_of NoMemory = status.no_memory
status_of NoModule = status.no_module
status_of FolderFault = status.folder_fault

-- its last text on the error stream
abbrev pub last_text : Ended → List ℕ
last_text Done = []
last_text (Failed t) = t
last_text Usage = error_line (codes "usage")
last_text (Refused t) = t
last_text ReadFault = error_line (codes "read fault")
last_text WriteFault = error_line (codes "write fault")
last_text NoMemory = error_line (codes "out of memory")
last_text NoModule = error_line (codes "no module")
last_text FolderFault = error_line (codes "folder fault")

-- these bytes were read from the file: at one state its path named a node, and at that or a later one the node had these bytes, or began with
-- them, where it was longer, up to the first byte past the limit
abbrev pub ReadFrom : PathView → List ℕ → (folder folder' : FolderView) → Type 0
ReadFrom path m folder folder' = ReadsNamed path (MOST_TEXT_BYTES + 1) m (state folder) (moved folder folder')

-- some state of the run had no file at the path
abbrev pub LacksModule : Option PathView → (folder folder' : FolderView) → Type 0
LacksModule None folder folder' = ⊥
LacksModule (Some path) folder folder' = AtSome (state folder) (moved folder folder') (λ s. is_file s path ≡ false)

-- there is a module's file to lack, and where the folder tells, some state lacked it
abbrev pub LacksTold : Option PathView → (folder folder' : FolderView) → Type 0
LacksTold None folder folder' = ⊥
LacksTold (Some path) folder folder' = folder.told → LacksModule (Some path) folder folder'

-- nothing was written
abbrev pub WritesNothing : (out out' : SinkView) → Type 0
WritesNothing out out' = out.told → out'.written ≡ out.written

-- The output that was computed was written so. A value rests on what is trusted.
abbrev pub EndsComputed : Output → (trusted : Type 0) → (out out' : SinkView) → Ended → Type 0
EndsComputed o trusted out out' Done = trusted → (o.status ≡ status.done) × (o.text ≡ []) × (out.told → out'.written ≡ out.written ++ o.bytes)
EndsComputed o trusted out out' (Failed t) = (o ≡ record { bytes = []; status = status.task_error; text = t }) × WritesNothing out out'
EndsComputed o trusted out out' (Refused t) = (o ≡ record { bytes = []; status = status.refused; text = t }) × WritesNothing out out'
EndsComputed o trusted out out' WriteFault = Rose out.faults out'.faults × (trusted → (o.status ≡ status.done) × (out.told → WritesPrefix o.bytes out.written out'.written))
EndsComputed o trusted out out' NoMemory = WritesNothing out out'
EndsComputed o trusted out out' _ = ⊥

-- ---- a run

-- Why a run over what its words give ended so: there was a command, or there was none, or a fault of what it reads or writes rose, or a file was lacked;
-- memory may want at any time.
abbrev pub RunEnds : Option Command → Course → Ended → Type 0
RunEnds given w Done = IsGiven given
RunEnds given w (Failed t) = IsGiven given
RunEnds given w Usage = given ≡ None
RunEnds given w (Refused t) = IsGiven given
RunEnds given w ReadFault = AreReading given × Rose w.input.faults w.input'.faults
RunEnds given w WriteFault = IsGiven given × Rose w.out.faults w.out'.faults
RunEnds given w NoMemory = ⊤
RunEnds given w NoModule = LacksTold (needs_given given).file w.folder w.folder'
RunEnds given w FolderFault = MayFault given × Rose w.folder.faults w.folder'.faults
