use Rattle.jl_operands.proofs.CountLemmas.{runs_by}
use Rattle.jl_builtins.proofs.OperationLemmas.{list_added}
use Rattle.jl_builtins.proofs.operations.add_values.Goals as goal

-- two lists are joined as the trees that they stand for
pub returns-in-List-right : goal.returns-in-List-right
returns-in-List-right c =
    runs_by c.add_members.result _ _ (list_added c.args.steps c.args.left.now c.args.right.now _ _ c.in-List.is c.in-List-right.is) c.add_members.ensures
