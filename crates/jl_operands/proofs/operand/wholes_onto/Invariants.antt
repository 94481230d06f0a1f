use Rattle.std.proofs.Common.{◌≡◌, ◌++◌, drop}
use Rattle.jl_value.specs.Form.{trees_of}
use Rattle.jl_operands.specs.Lists.{wholes}
use Rattle.jl_operands.proofs.operand.wholes_onto.Given as goal

abbrev pub invariant-loop-number : goal.invariant-loop-number
invariant-loop-number l = trees_of l.members.items ++ wholes (drop l.number-index l.more) ≡ trees_of l.fn.members.items ++ wholes l.more
