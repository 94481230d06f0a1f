-- Why nothing is run, and what a run of the program's words says of them.
use Rattle.std.specs.Prelude.{◌≡◌, ◌⊎◌, ◌++◌, ℕ, List, Option, Some, None, codes}
use Rattle.jl_streams.specs.Views.{SinkView, SinkAnswers, SinkKeeps}
use Rattle.jl_cmd.specs.Commands.{given_of, hash}
use Rattle.jl_cmd.specs.Output.{Output, hash_output}
use Rattle.jl_cmd.specs.Course.{IsClear}
use Rattle.jl_cmd.specs.Endings.{WritesNothing}
use Rattle.jl_cmd.specs.Promises.{HasWholeOutput, IsSilent, IsStatus, text_of_status}
use Rattle.jl_cmd.specs.Statuses as status
use Rattle.jl_cmd.specs.Texts.{error_line}
use Rattle.joblib.specs.Tokens.{FirstGives, IsTokenOf, own_of}
use Rattle.joblib.specs.declared.start.StartFault.{StartFault}
use Rattle.joblib.specs.declared.start.StartFault.TheVariants.{Usage, Memory}

-- the exit status then
abbrev pub fault_status : StartFault → ℕ
fault_status Usage = status.usage
fault_status Memory = status.no_memory

-- and the line on the error stream
abbrev pub fault_text : StartFault → List ℕ
fault_text Usage = error_line (codes "usage")
fault_text Memory = error_line (codes "out of memory")

-- an output was put out whole: its status, its bytes behind what was written, and with nothing before it its text on the error stream
pub record PutsOutput (n : ℕ) (out out' err err' : SinkView) (o : Output) : Type 0 where
  pub status : o.status ≡ n
  pub bytes : out.told → out'.written ≡ out.written ++ o.bytes
  pub text : IsClear err err' → err'.written ≡ err.written ++ o.text

-- what a status tells of the output and of the error stream: nothing was written where the status is silent, and a fault of the output is told as such
-- and nothing else is; at a status that has one text that text stands last, and alone where the words were wrong
pub record TellsStatus (n : ℕ) (out out' err err' : SinkView) : Type 0 where
  pub statuses : IsStatus n
  pub nothing : IsSilent n → WritesNothing out out'
  pub usage_text : n ≡ status.usage → IsClear err err' → err'.written ≡ err.written ++ text_of_status n
  pub text : IsSilent n ⊎ (n ≡ status.write_fault) → IsClear err err' → (said : List ℕ) × (err'.written ≡ err.written ++ (said ++ text_of_status n))
  pub out_frame : SinkAnswers (n ≡ status.write_fault) out out'
  pub err_frame : SinkKeeps err err'

-- what a run makes of its own words: they are wrong usage just where they give no command, unless memory is short;
-- and where they ask for a hash, that of their arguments is put out
pub record RunsOwn (words : List (List ℕ)) (processors : ℕ) (Puts : Output → Type 0) (n : ℕ) : Type 0 where
  pub usage : given_of words processors ≡ None → (n ≡ status.usage) ⊎ (n ≡ status.no_memory)
  pub usage_only : n ≡ status.usage → given_of words processors ≡ None
  pub hashes : (args : List ℕ) → given_of words processors ≡ Some (hash args) → HasWholeOutput n → Puts (hash_output args)

-- what a run of the program's words makes of them: the run's token is the one that the first of them gives, where it gives one,
-- and the others are the run's own
pub record RunsWords (words : List (List ℕ)) (processors : ℕ) (token : List ℕ) (Puts : Output → Type 0) (n : ℕ) : Type 0 where
  pub given : Option (List ℕ)
  pub gives : FirstGives words given
  pub chosen : IsTokenOf given token
  pub own : RunsOwn (own_of given words) processors Puts n
