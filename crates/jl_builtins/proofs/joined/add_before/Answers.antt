use Rattle.std.proofs.Common.{sym, ap, ◌∙◌}
use Rattle.jl_value.specs.Tree.{list, items_of}
use Rattle.jl_value.specs.Form.{tree_of, trees_of}
use Rattle.jl_value.specs.declared.value.Value.{Value}
use Rattle.jl_operands.specs.Lists.{wholes}
use Rattle.jl_operands.specs.Operands.{list_of_wholes}
use Rattle.jl_builtins.specs.Operations.{sum_of}
use Rattle.jl_operands.specs.Steps.{operated}
use Rattle.jl_operands.proofs.CountLemmas.{runs_by}
use Rattle.jl_builtins.proofs.OperationLemmas.{lists_added}
use Rattle.jl_builtins.proofs.joined.add_before.Goals as goal

pub returns-in-List : goal.returns-in-List
returns-in-List c =
    runs_by c.add_lists.result _ _
    (lists_added c.args.steps (wholes c.args.left.now) (trees_of c.as_slice.result.now)
    ∙ ap (λ ts. operated c.args.steps (sum_of (list_of_wholes c.args.left.now) (list (items_of ts)))) c.as_slice.ensures
    ∙ ap (λ (v : Value). operated c.args.steps (sum_of (list_of_wholes c.args.left.now) (tree_of v))) (sym c.in-List.is))
    c.add_lists.ensures
