use Rattle.std.proofs.Common.{◌++◌, ap, ◌∙◌}
use Rattle.jl_value.specs.Tree.{list, items_of}
use Rattle.jl_operands.specs.Operands.{list_of_wholes}
use Rattle.jl_operands.proofs.WholeLemmas.{wholes_both}
use Rattle.jl_builtins.proofs.joined.join_wholes.Goals as goal

pub returns : goal.returns
returns c =
    ap list_of_wholes
    (c.in_ok-extend_from_slice-2.ensures.items
    ∙ ap (λ zs. zs ++ c.args.right.now) (c.in_ok-extend_from_slice.ensures.items ∙ ap (λ zs. zs ++ c.args.left.now) c.in_ok-numbers.ensures.items))
    ∙ ap (λ ts. list (items_of ts)) (wholes_both c.args.left.now c.args.right.now)
