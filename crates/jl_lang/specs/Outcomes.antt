-- What the evaluation of an expression answers.
use Rattle.std.specs.Prelude.{◌≡◌, ℕ, List, ⊤}
use Rattle.jl_value.specs.Tree.{Tree}
use Rattle.jl_operands.specs.Operands.{trees_gathered}
use Rattle.jl_value.specs.Library.{Answer, error}
use Rattle.jl_operands.specs.declared.fault.CallFault.{CallFault}
use Rattle.jl_operands.specs.declared.fault.CallFault.TheVariants.{Task, NoMemory}
use Rattle.jl_operands.specs.Steps.{Evaluated, failed}
use Rattle.jl_operands.specs.Lists.{taking}
use Rattle.jl_lang.specs.declared.evaluator.Members.{Members}

-- the error of a call
abbrev pub IsError : CallFault → Answer → Type 0
IsError (Task e) a = a ≡ error e
IsError NoMemory a = ⊤

-- the members of a list so far, behind one more that its condition may let through
abbrev pub IsTaken : Members → (ℕ → Evaluated) → (ℕ → Evaluated) → List Tree → ℕ → Type 0
IsTaken t if_so of vs n = (rest : List Tree → ℕ → Evaluated) → taking if_so of vs n rest ≡ rest (trees_gathered t.values) t.steps

-- why there is no such member
abbrev pub IsLeft : CallFault → (ℕ → Evaluated) → (ℕ → Evaluated) → List Tree → ℕ → Type 0
IsLeft (Task e) if_so of vs n = (rest : List Tree → ℕ → Evaluated) → taking if_so of vs n rest ≡ failed e
IsLeft NoMemory if_so of vs n = ⊤
