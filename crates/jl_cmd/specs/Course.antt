-- How a run went: what modules mean to its library, and what was seen of each thing outside of it, before and after.
use Rattle.std.specs.Prelude.{ℕ, List, Option}
use Rattle.jl_text.specs.Counts.{Rose}
use Rattle.jl_value.specs.declared.library.ModuleFault.{ModuleFault}
use Rattle.jl_folder.specs.Views.{FolderView, FolderKeeps}
use Rattle.jl_streams.specs.Views.{SourceView, SinkView, HostView, SourceAnswers, SinkAnswers, SinkKeeps, HostKeeps}
use Rattle.jl_protocol.specs.Whole.{CodeAnswers}

-- what modules mean to a library: the code of a function and the number of its line, by a module's bytes and a name; why bytes are no module;
-- and what a code answers on arguments
pub record Meanings : Type 0 where
  pub code : List ℕ → List ℕ → Option (List ℕ)
  pub line : List ℕ → List ℕ → ℕ
  pub fault : List ℕ → Option ModuleFault
  pub answer : CodeAnswers

abbrev pub meanings : (code : List ℕ → List ℕ → Option (List ℕ)) → (line : List ℕ → List ℕ → ℕ) → (fault : List ℕ → Option ModuleFault) → (answer : CodeAnswers) → Meanings
meanings code line fault answer = record { code = code; line = line; fault = fault; answer = answer }

-- how a call of a function went: the meanings, and the library's count of calls, the folder and the host, before and after
pub record Stretch : Type 1 where
  pub means : Meanings
  pub calls : ℕ
  pub calls' : ℕ
  pub folder : FolderView
  pub folder' : FolderView
  pub host : HostView
  pub host' : HostView

abbrev pub stretch : Meanings → (calls calls' : ℕ) → (folder folder' : FolderView) → (host host' : HostView) → Stretch
stretch means calls calls' folder folder' host host' =
    record { means = means; calls = calls; calls' = calls'; folder = folder; folder' = folder'; host = host; host' = host' }

-- how a run went: the same, and its input and its output, before and after. Its error stream stands apart, since its last texts are written behind all that
pub record Course : Type 1 where
  pub means : Meanings
  pub calls : ℕ
  pub calls' : ℕ
  pub folder : FolderView
  pub folder' : FolderView
  pub host : HostView
  pub host' : HostView
  pub input : SourceView
  pub input' : SourceView
  pub out : SinkView
  pub out' : SinkView

abbrev pub course : Meanings → (calls calls' : ℕ) → (folder folder' : FolderView) → (host host' : HostView) → (input input' : SourceView) → (out out' : SinkView) → Course
course means calls calls' folder folder' host host' input input' out out' =
    record { means = means; calls = calls; calls' = calls'; folder = folder; folder' = folder'; host = host; host' = host'; input = input; input' = input'; out = out; out' = out' }

-- what of it a call of a function sees
abbrev pub stretch_of : Course → Stretch
stretch_of w = stretch w.means w.calls w.calls' w.folder w.folder' w.host w.host'

-- the stream tells, and no fault of it rose
abbrev pub IsClear : (old new : SinkView) → Type 0
IsClear old new = old.told × (Rose old.faults new.faults → ⊥)

-- the frame of a run: who told goes on telling, tokens and open numbers stay, counts of faults never fall; that of the input rose exactly where a
-- read failed, and that of the output exactly where a write did
pub record KeepsCourse (read_fails write_fails : Type 0) (w : Course) (before after : SinkView) : Type 0 where
  pub folder : FolderKeeps w.folder w.folder'
  pub host : HostKeeps w.host w.host'
  pub input : SourceAnswers read_fails w.input w.input'
  pub out : SinkAnswers write_fails w.out w.out'
  pub err : SinkKeeps before after
