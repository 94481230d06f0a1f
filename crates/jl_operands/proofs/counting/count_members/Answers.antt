use Rattle.std.proofs.Common.{◌-◌, ◌^◌, List, min, sym, ap, ◌∙◌}
use Rattle.std.specs.Prelude.{Some, None}
use Rattle.jl_value.specs.Tree.{Tree, list, items_of}
use Rattle.jl_value.specs.Form.{trees_of}
use Rattle.jl_value.specs.declared.value.Value.{Value}
use Rattle.jl_operands.specs.Steps.{done, items_weight}
use Rattle.jl_operands.proofs.CountLemmas.{counted_is, list_weight}
use Rattle.jl_operands.proofs.counting.count_members.Goals as goal

pub returns-in-Some : goal.returns-in-Some
returns-in-Some c =
    let members = c.items_weight.ensures ∙ ap (λ (l : List Value). min (items_weight (items_of (trees_of l))) (2 ^ 64 - 1)) c.as_slice.ensures.value in
    counted_is (Some c.in-Some.steps) c.args.steps c.saturating_add.result (list (items_of (trees_of c.args.members.items)))
    (list_weight (items_of (trees_of c.args.members.items)) c.items_weight.result c.saturating_add.result members c.saturating_add.ensures)
    c.in-Some.ensures
    ∙ ap (λ (l : List Tree). done (list (items_of l)) c.in-Some.steps) (sym c.new.ensures)

pub returns-in-None : goal.returns-in-None
returns-in-None c =
    let members = c.items_weight.ensures ∙ ap (λ (l : List Value). min (items_weight (items_of (trees_of l))) (2 ^ 64 - 1)) c.as_slice.ensures.value in
    counted_is None c.args.steps c.saturating_add.result (list (items_of (trees_of c.args.members.items)))
    (list_weight (items_of (trees_of c.args.members.items)) c.items_weight.result c.saturating_add.result members c.saturating_add.ensures)
    c.in-None.ensures
