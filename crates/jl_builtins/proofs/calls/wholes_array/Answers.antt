use Rattle.std.specs.Prelude.{None}
use Rattle.jl_value.specs.Tree.{numbers}
use Rattle.jl_operands.proofs.CountLemmas.{counted_is}
use Rattle.jl_builtins.proofs.calls.wholes_array.Goals as goal

pub returns-in-None : goal.returns-in-None
returns-in-None c = counted_is None c.args.steps c.length_weight.result (numbers c.args.numbers.now) c.length_weight.ensures c.in-None.ensures
