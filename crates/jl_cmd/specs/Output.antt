-- What a run writes and its status, where nothing fails: no fault, no want of memory.
use Rattle.std.specs.Prelude.{ℕ, List, [], ◌∷◌, ◌++◌, length, Option, Some, None, Result, Ok, Err, if◌then◌else◌, nat_lt, codes, ◌+◌, take, cond}
use Rattle.std.specs.Fmt.{decimal}
use Rattle.jl_lines.specs.Lines.{is_newline}
use Rattle.jl_text.specs.declared.limits.TheConstants.{MOST_TEXT_BYTES, MOST_INPUT_BYTES}
use Rattle.jl_value.specs.declared.library.TaskError.{TaskError}
use Rattle.jl_value.specs.declared.library.ModuleFault.{ModuleFault}
use Rattle.jl_value.specs.declared.library.ModuleFaultKind.TheVariants as module_fault
use Rattle.jl_value.specs.Tree.{Tree}
use Rattle.hex.specs.Hex.{encode_lower}
use Rattle.jl_value.specs.Canonical.{text_of}
use Rattle.jl_value.specs.Key.{key_of}
use Rattle.jl_value.specs.Library.{Answer, value, error}
use Rattle.jl_cmd.specs.Course.{Meanings}
use Rattle.jl_cmd.specs.declared.arguments.ArgumentsFault.{ArgumentsFault}
use Rattle.jl_cmd.specs.declared.arguments.ArgumentsFault.TheVariants.{UnknownFunction}
use Rattle.jl_cmd.specs.Arguments.{arguments_of}
use Rattle.jl_cmd.specs.Statuses as status
use Rattle.jl_value.specs.Names.{name_of, fault_name_of}
use Rattle.jl_cmd.specs.Texts.{why, error_line}

-- the bytes on standard output, the exit status, and the last text on the error stream
pub record Output : Type 0 where
  pub bytes : List ℕ
  pub status : ℕ
  pub text : List ℕ

-- a value: its canonical text and a newline
abbrev pub prints : Tree → Output
prints t = record { bytes = text_of t ++ 10 ∷ []; status = status.done; text = [] }

-- nothing is printed
abbrev pub prints_nothing : Output
prints_nothing = record { bytes = []; status = status.done; text = [] }

-- a line is printed
abbrev pub prints_line : List ℕ → Output
prints_line line = record { bytes = line; status = status.done; text = [] }

-- a task that failed, by its number from 0
abbrev pub fails : ℕ → TaskError → Output
fails i e = record { bytes = []; status = status.task_error; text = error_line (codes "task " ++ (decimal i ++ (codes ": " ++ name_of e))) }

abbrev pub refuses_module : ModuleFault → Output
refuses_module f = record { bytes = []; status = status.refused; text = error_line (codes "module line " ++ (decimal f.line ++ (codes ": " ++ fault_name_of f.kind))) }

abbrev pub refuses_arguments : ArgumentsFault → Output
refuses_arguments e = record { bytes = []; status = status.refused; text = error_line (codes "arguments: " ++ why e) }

abbrev pub answers : Answer → Output
answers (value t) = prints t
answers (error e) = fails 0 e

-- what a function answers on what was read of its arguments
abbrev pub applied : (List (List ℕ × Tree) → Answer) → Result (List (List ℕ × Tree)) ArgumentsFault → Output
applied f (Ok args) = answers (f args)
applied f (Err e) = refuses_arguments e

-- a call of the function with this code: an unknown function is refused before the arguments are read
abbrev pub called : (List ℕ → List (List ℕ × Tree) → Answer) → Option (List ℕ) → List ℕ → Output
called answer None args = refuses_arguments UnknownFunction
called answer (Some c) args = applied (answer c) (arguments_of args)

-- a module with this fault, if any
abbrev pub read_module : Option ModuleFault → Output → Output
read_module (Some f) then' = refuses_module f
read_module None then' = then'

abbrev pub too_large : ModuleFault
too_large = record { line = 1; kind = module_fault.TooLarge }

-- the fault of a module's bytes: it is too large, or what the library says
abbrev pub module_fault_of : (List ℕ → Option ModuleFault) → List ℕ → Option ModuleFault
module_fault_of fault m = if nat_lt MOST_TEXT_BYTES (length m) then Some too_large else fault m

-- `call`: the module's bytes, the function's name and the text of the arguments, over a library's meanings
abbrev pub call_output : Meanings → (m name args : List ℕ) → Output
call_output means m name args = read_module (module_fault_of means.fault m) (called means.answer (means.code m name) args)

-- `hash`: the key of the arguments, as 32 digits, and a newline
abbrev pub prints_key : List (List ℕ × Tree) → Output
prints_key args = record { bytes = encode_lower (key_of args) ++ 10 ∷ []; status = status.done; text = [] }

abbrev pub hashed : Result (List (List ℕ × Tree)) ArgumentsFault → Output
hashed (Ok args) = prints_key args
hashed (Err e) = refuses_arguments e

abbrev pub hash_output : List ℕ → Output
hash_output args = hashed (arguments_of args)

-- how many lines end among the bytes
abbrev pub newlines : List ℕ → ℕ
newlines [] = 0
newlines (b ∷ bs) = cond (is_newline b) (1 + newlines bs) (newlines bs)

-- too much input, told with the number of a line
abbrev pub refuses_input : ℕ → Output
refuses_input n = record { bytes = []; status = status.refused; text = error_line (codes "line " ++ (decimal n ++ codes ": too much input")) }

-- `tracker`: nothing. An input of more bytes than are taken is refused, with the number of the line that is read when so many are taken
unfoldable pub tracker_output : List ℕ → Output
tracker_output input = if nat_lt MOST_INPUT_BYTES (length input) then refuses_input (1 + newlines (take MOST_INPUT_BYTES input)) else record { bytes = []; status = status.done; text = [] }
