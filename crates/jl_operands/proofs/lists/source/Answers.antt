use Rattle.std.proofs.Common.{ap, ◌∙◌}
use Rattle.std.specs.Prelude.{Some}
use Rattle.jl_operands.specs.Lists.{source_of}
use Rattle.jl_operands.specs.Operands.{tree_of_operand}
use Rattle.jl_operands.specs.declared.operand.Operand.{Operand}
use Rattle.jl_operands.proofs.WholeLemmas.{list_there}
use Rattle.jl_operands.proofs.lists.source.Goals as goal

pub returns-in-Wholes : goal.returns-in-Wholes
returns-in-Wholes c = ap (λ (o : Operand). source_of (tree_of_operand o)) c.in-Wholes.is ∙ ap Some (list_there _)
