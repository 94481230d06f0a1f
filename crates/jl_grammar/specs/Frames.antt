-- What waits for an operand while an expression is read, with what was read of it.
use Rattle.std.specs.Prelude.{ℕ, List}
use Rattle.jl_lexer.specs.declared.operators.Operator.{Operator}
use Rattle.jl_lexer.specs.declared.operators.Prefix.{Prefix}
use Rattle.jl_lexer.specs.declared.operators.Function.{Function}
use Rattle.jl_lexer.specs.Trees.{Expression}

pub data Frame : Type 0 where
  -- `(`
  Bracket : Frame
  -- `not` or `-`
  Behind : Prefix → Frame
  -- `a` and an operator
  Operand : Operator → Expression → Frame
  -- `a if`
  Condition : Expression → Frame
  -- `a if c else`
  Otherwise : Expression → Expression → Frame
  -- `a[`
  Element : Expression → Frame
  -- a function and `(`
  Member : Function → Frame
  -- `range(a,`
  Bound : Expression → Frame
  -- `[` and members with a comma behind each
  Listed : List Expression → Frame
  -- `{`, entries with a comma behind each, a key and `:`
  Keyed : List (List ℕ × Expression) → List ℕ → Frame
  -- `[e for x in`
  Source : Expression → List ℕ → Frame
  -- `[e for x in a if`
  Filter : Expression → List ℕ → Expression → Frame
