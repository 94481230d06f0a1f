-- The texts of the error stream.
use Rattle.std.specs.Prelude.{ℕ, List, ◌++◌, [], ◌∷◌, codes}
use Rattle.jl_store.specs.declared.memory.Warning.{Warning}
use Rattle.jl_store.specs.Warnings.{warning_text}
use Rattle.jl_cmd.specs.declared.arguments.ArgumentsFault.{ArgumentsFault}
use Rattle.jl_cmd.specs.declared.arguments.ArgumentsFault.TheVariants as arguments

-- why arguments are refused
abbrev pub why : ArgumentsFault → List ℕ
why arguments.UnknownFunction = codes "unknown function"
why arguments.TooLong = codes "too long"
why arguments.NotJson = codes "not JSON"
why arguments.NotWhole = codes "not a whole number"
why arguments.BadArray = codes "bad array"
why arguments.TooDeep = codes "too deep"
why arguments.NotTable = codes "not a table"
why arguments.Memory = codes "out of memory"

-- a text of the error stream: `error: `, what it says, and a newline
unfoldable pub error_line : List ℕ → List ℕ
error_line what = codes "error: " ++ (what ++ 10 ∷ [])

-- the lines of warnings of a module's calls
abbrev pub warning_lines : List ℕ → List Warning → List ℕ
warning_lines m [] = []
warning_lines m (w ∷ ws) = warning_text m w ++ (10 ∷ warning_lines m ws)
