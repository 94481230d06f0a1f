use Rattle.jl_operands.specs.Lists.{wholes}
use Rattle.jl_operands.proofs.CountLemmas.{runs_by}
use Rattle.jl_builtins.proofs.OperationLemmas.{lists_added}
use Rattle.jl_builtins.proofs.joined.add_wholes.Goals as goal

pub returns : goal.returns
returns c = runs_by c.add_lists.result _ _ (lists_added c.args.steps (wholes c.args.left.now) (wholes c.args.right.now)) c.add_lists.ensures
