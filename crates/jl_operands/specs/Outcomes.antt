-- What an operation on values answers.
use Rattle.std.specs.Prelude.{◌≡◌, ℕ, List, map, Option, None, Result, Ok, Err, MatchResult, ⊤}
use Rattle.std.specs.String.{string_bytes}
use Rattle.std.specs.declared.string.String.{String}
use Rattle.jl_value.specs.Tree.{Tree}
use Rattle.jl_value.specs.Form.{tree_of}
use Rattle.jl_value.specs.declared.value.Value.{Value}
use Rattle.jl_value.specs.declared.library.TaskError.{TaskError}
use Rattle.jl_value.specs.declared.library.TaskError.TheVariants.{BadKind}
use Rattle.jl_operands.specs.declared.fault.CallFault.{CallFault}
use Rattle.jl_operands.specs.declared.fault.CallFault.TheVariants.{Task, NoMemory}
use Rattle.jl_operands.specs.declared.counting.Counted.{Counted}
use Rattle.jl_operands.specs.Steps.{Evaluated, done, failed}
use Rattle.jl_operands.specs.Operands.{tree_of_operand}

-- the error of an operation
abbrev pub Refuses : CallFault → Result Tree TaskError → Type 0
Refuses (Task e) r = r ≡ Err e
Refuses NoMemory r = ⊤

-- an operation makes the value that is to be made, or tells its error
abbrev pub Makes : Result Value CallFault → Result Tree TaskError → Type 0
Makes x r = MatchResult x (λ v. r ≡ Ok (tree_of v)) (λ e. Refuses e r)

-- a value with the count of steps behind it
abbrev pub IsRan : Counted → Evaluated → Type 0
IsRan c r = r ≡ done (tree_of_operand c.value) c.steps

-- the error in place of a value
abbrev pub IsFailing : CallFault → Evaluated → Type 0
IsFailing (Task e) r = r ≡ failed e
IsFailing NoMemory r = ⊤

-- a value is made and counted as it is to be, or its error is told
abbrev pub Evaluates : Result Counted CallFault → Evaluated → Type 0
Evaluates x r = MatchResult x (λ c. IsRan c r) (λ e. IsFailing e r)

-- there is nothing to go over
abbrev pub NoSource : CallFault → Option (List Tree) → Type 0
NoSource (Task e) o = (o ≡ None) × (e ≡ BadKind)
NoSource NoMemory o = ⊤

-- the keys and values of a map
abbrev pub pairs_in : {Y : Type 0} → List (String Y × Value) → List (List ℕ × Tree)
pairs_in es = map (λ e. (string_bytes e.0, tree_of e.1)) es
