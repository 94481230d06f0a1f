use Rattle.std.proofs.Common.{List, sym, ap, ap₂, ◌∙◌}
use Rattle.std.specs.Prelude.{ℤ}
use Rattle.jl_value.specs.Sameness.{tree_per}
use Rattle.jl_value.specs.Same.{tree_eq}
use Rattle.jl_value.specs.Tree.{items_of}
use Rattle.jl_value.specs.Form.{tree_of}
use Rattle.jl_operands.specs.declared.operand.Operand.{Operand}
use Rattle.jl_operands.specs.Lists.{wholes}
use Rattle.jl_operands.specs.Operands.{list_of_wholes, tree_of_operand}
use Rattle.jl_builtins.specs.Operations.{operation, on_lists}
use Rattle.jl_builtins.proofs.OperationLemmas.{list_before}
use Rattle.jl_builtins.proofs.WholeLemmas.{makes_by}
use Rattle.jl_builtins.proofs.operations.apply.Goals as goal

-- the test is asked from the right side
pub returns-in-Plain-right-2 : goal.returns-in-Plain-right-2
returns-in-Plain-right-2 c =
    let zs = c.in-Wholes.left.items in
    let w = tree_of c.in-Plain-right-2.right in
    makes_by c.test_lists-in-Plain-right-2.result _ _
    (ap (on_lists c.args.operator)
    (c.is_list_of-in-Plain-right-2.ensures
    ∙ ap (λ (l : List ℤ). tree_eq w (list_of_wholes l)) c.as_slice-in-Plain-right-2.ensures.value
    ∙ tree_per.symm w (list_of_wholes zs))
    ∙ list_before c.args.operator (items_of (wholes zs)) w c.requires
    ∙ ap₂ (λ (l r : Operand). operation c.args.operator (tree_of_operand l) (tree_of_operand r)) (sym c.in-Wholes.is) (sym c.in-Plain-right-2.is))
    c.test_lists-in-Plain-right-2.ensures
