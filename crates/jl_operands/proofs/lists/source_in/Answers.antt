use Rattle.std.proofs.Common.{sym, ap, ◌∙◌}
use Rattle.std.specs.Prelude.{Some}
use Rattle.jl_value.specs.Form.{tree_of}
use Rattle.jl_value.specs.declared.value.Value.{Value}
use Rattle.jl_operands.specs.Lists.{source_of}
use Rattle.jl_operands.proofs.WholeLemmas.{list_there}
use Rattle.jl_operands.proofs.lists.source_in.Goals as goal

pub returns-in-List : goal.returns-in-List
returns-in-List c = ap (λ (v : Value). source_of (tree_of v)) c.in-List.is ∙ ap Some (list_there _) ∙ ap Some (sym c.into_vec.ensures)
