-- What a run met, as a datum, and what its command gives by that.
use Rattle.std.specs.Prelude.{◌≡◌, ℕ, List, []}
use Rattle.jl_text.specs.Paths.{PathView}
use Rattle.jl_folder.specs.Views.{FolderView}
use Rattle.jl_quota.specs.declared.limits.Limits.{Limits}
use Rattle.jl_cmd.specs.Commands.{Command, call, hash, clear, reduce_size, tracker}
use Rattle.jl_cmd.specs.Course.{Meanings, Course}
use Rattle.jl_cmd.specs.Endings.{ReadFrom}
use Rattle.jl_cmd.specs.Output.{Output, prints_nothing, prints_line, call_output, hash_output, tracker_output}
use Rattle.jl_cmd.specs.of.Reduce.{report_of, IsReported}

-- nothing, the bytes of the module's file, or the numbers of what was taken away
pub data Met : Type 0 where
  of_nothing : Met
  of_module : (bytes : List ℕ) → Met
  of_report : (count bytes : ℕ) → Met

-- the bytes that were met, if such were
abbrev pub bytes_in : Met → List ℕ
bytes_in of_nothing = []
bytes_in (of_module bytes) = bytes
bytes_in (of_report count bytes) = []

-- the line of the numbers that were met
abbrev pub report_line : Met → List ℕ
report_line of_nothing = []
report_line (of_module bytes) = []
report_line (of_report count bytes) = report_of count bytes

-- the bytes were read from the file
abbrev pub ReadModuleFrom : PathView → (folder folder' : FolderView) → Met → Type 0
ReadModuleFrom file folder folder' of_nothing = ⊥
ReadModuleFrom file folder folder' (of_module bytes) = folder.told → ReadFrom file bytes folder folder'
ReadModuleFrom file folder folder' (of_report count bytes) = ⊥

-- so much was taken away
abbrev pub HasReported : PathView → Limits → Course → Met → Type 0
HasReported location limits w of_nothing = ⊥
HasReported location limits w (of_module bytes) = ⊥
HasReported location limits w (of_report count bytes) = IsReported location limits w.host w.folder w.folder' count bytes

-- that was met by a run of a command, as it went
abbrev pub IsMet : Command → Course → Met → Type 0
IsMet (call file location name args) w met = ReadModuleFrom file w.folder w.folder' met
IsMet (hash args) w met = met ≡ of_nothing
IsMet (clear location m f key) w met = met ≡ of_nothing
IsMet (reduce_size location limits) w met = HasReported location limits w met
IsMet tracker w met = met ≡ of_nothing

-- the output of a command, over a library's meanings, the input and what was met
abbrev pub output_of : Meanings → (input : List ℕ) → Command → Met → Output
output_of means input (call file location name args) met = call_output means (bytes_in met) name args
output_of means input (hash args) met = hash_output args
output_of means input (clear location m f key) met = prints_nothing
output_of means input (reduce_size location limits) met = prints_line (report_line met)
output_of means input tracker met = tracker_output input

-- the same as a run went
abbrev pub output_in : Command → Course → Met → Output
output_in s w met = output_of w.means w.input.left s met
