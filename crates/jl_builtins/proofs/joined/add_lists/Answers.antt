use Rattle.std.proofs.Common.{◌++◌, sym, ap, ◌∙◌}
use Rattle.std.specs.Prelude.{Some, None}
use Rattle.jl_value.specs.Tree.{Tree, list, items_of}
use Rattle.jl_operands.specs.Steps.{done}
use Rattle.jl_builtins.specs.Joined.{trees_listed}
use Rattle.jl_operands.proofs.CountLemmas.{counted_is, lists_weight}
use Rattle.jl_builtins.proofs.joined.add_lists.Goals as goal

pub returns-in_ok-join_lists-in-Some : goal.returns-in_ok-join_lists-in-Some
returns-in_ok-join_lists-in-Some c =
    let left = trees_listed c.args.left in
    let right = trees_listed c.args.right in
    counted_is (Some c.in-Some.steps) c.args.steps c.saturating_add.result (list (items_of (left ++ right)))
    (lists_weight left right c.listed_weight.result c.listed_weight-2.result c.saturating_add-both.result c.saturating_add.result c.listed_weight.ensures c.listed_weight-2.ensures c.saturating_add-both.ensures c.saturating_add.ensures)
    c.in-Some.ensures
    ∙ ap (λ (t : Tree). done t c.in-Some.steps) (sym c.in_ok-join_lists-in-Some.ensures)

pub returns-in-None : goal.returns-in-None
returns-in-None c =
    let left = trees_listed c.args.left in
    let right = trees_listed c.args.right in
    counted_is None c.args.steps c.saturating_add.result (list (items_of (left ++ right)))
    (lists_weight left right c.listed_weight.result c.listed_weight-2.result c.saturating_add-both.result c.saturating_add.result c.listed_weight.ensures c.listed_weight-2.ensures c.saturating_add-both.ensures c.saturating_add.ensures)
    c.in-None.ensures
