use Rattle.std.specs.Prelude.{Some, None}
use Rattle.jl_value.specs.Form.{tree_of}
use Rattle.jl_operands.proofs.CountLemmas.{counted_is}
use Rattle.jl_operands.proofs.counting.count_value.Goals as goal

pub returns-in-Some : goal.returns-in-Some
returns-in-Some c = counted_is (Some c.in-Some.steps) c.args.steps c.weight.result (tree_of c.args.value) c.weight.ensures c.in-Some.ensures

pub returns-in-None : goal.returns-in-None
returns-in-None c = counted_is None c.args.steps c.weight.result (tree_of c.args.value) c.weight.ensures c.in-None.ensures
