-- What reading a final file tells, whatever others do.
use Rattle.std.specs.Prelude.{◌≡◌, ℕ, List, Some, ⊤}
use Rattle.jl_text.specs.Paths.{PathView}
use Rattle.jl_folder.specs.State.{State, Trace, AtSome, bytes_at}
use Rattle.jl_folder.specs.declared.read.FileRead.{FileRead}
use Rattle.jl_folder.specs.declared.read.FileRead.TheVariants as file_read
use Rattle.jl_entry.specs.Names.{Final}
use Rattle.jl_rely.specs.Steps.{AllSteps}
use Rattle.jl_protocol.specs.Whole.{IsWhole}
use Rattle.jl_protocol.specs.Proper.{IsProper}
use Rattle.jl_protocol.specs.Tidy.{IsTidy}

-- From a tidy state, where all steps are proper: at one step of the call the final name named a node with exactly these bytes, and they are whole for it.
pub record FindsWhole (root : PathView) (x : Final) (last : PathView) (bytes : List ℕ) (s : State) (moves : Trace) : Type 0 where
  pub named : AtSome s moves (λ s. bytes_at s last ≡ Some bytes)
  pub whole : IsWhole x bytes

-- what is found under a final name
abbrev pub FindsFinal : (root : PathView) → Final → PathView → FileRead → State → Trace → Type 0
FindsFinal root x last (file_read.Bytes bytes) s moves = IsTidy root s → AllSteps (IsProper root) s moves → FindsWhole root x last bytes s moves
FindsFinal root x last file_read.NoFile s moves = ⊤
FindsFinal root x last file_read.Failed s moves = ⊤
FindsFinal root x last file_read.NoMemory s moves = ⊤
