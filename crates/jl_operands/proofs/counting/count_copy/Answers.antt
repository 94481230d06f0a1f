use Rattle.std.proofs.Common.{sym, ap, ◌∙◌}
use Rattle.std.specs.Prelude.{Some, None}
use Rattle.jl_value.specs.Form.{tree_of}
use Rattle.jl_value.specs.declared.value.Value.{Value}
use Rattle.jl_operands.specs.Steps.{done}
use Rattle.jl_operands.proofs.CountLemmas.{counted_is}
use Rattle.jl_operands.proofs.counting.count_copy.Goals as goal

pub returns-in_ok-copy-in-Some : goal.returns-in_ok-copy-in-Some
returns-in_ok-copy-in-Some c =
    counted_is (Some c.in-Some.steps) c.args.steps c.weight.result (tree_of c.args.value.now) c.weight.ensures c.in-Some.ensures
    ∙ ap (λ (v : Value). done (tree_of v) c.in-Some.steps) (sym c.in_ok-copy-in-Some.ensures)

pub returns-in-None : goal.returns-in-None
returns-in-None c = counted_is None c.args.steps c.weight.result (tree_of c.args.value.now) c.weight.ensures c.in-None.ensures
