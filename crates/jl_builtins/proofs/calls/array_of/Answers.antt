use Rattle.std.proofs.Common.{[], refl, sym, ap, ◌∙◌}
use Rattle.std.specs.Prelude.{Some, None}
use Rattle.jl_value.specs.Tree.{items_of}
use Rattle.jl_value.specs.Form.{trees_of}
use Rattle.jl_operands.specs.Steps.{operated}
use Rattle.jl_builtins.proofs.CallLemmas.{array_made, array_long, no_array}
use Rattle.jl_builtins.proofs.calls.array_of.Goals as goal

pub returns-in_ok-numbers_of-in-Some : goal.returns-in_ok-numbers_of-in-Some
returns-in_ok-numbers_of-in-Some c =
    array_made (Some c.in-Some.steps) c.args.steps c.length_weight.result c.in-Some.steps c.args.items.now c.in_ok-numbers_of-in-Some.field-0
    (sym c.are_whole.ensures ∙ c.if-not-are_whole.false) c.length_weight.ensures c.in-Some.ensures refl c.in_ok-numbers_of-in-Some.ensures

pub returns-in-None : goal.returns-in-None
returns-in-None c =
    array_long None c.args.steps c.length_weight.result c.args.items.now
    (sym c.are_whole.ensures ∙ c.if-not-are_whole.false) c.length_weight.ensures c.in-None.ensures refl

pub returns-then-not-are_whole : goal.returns-then-not-are_whole
returns-then-not-are_whole c = ap (operated c.args.steps) (no_array [] (items_of (trees_of c.args.items.now)) (sym c.are_whole.ensures ∙ c.if-not-are_whole.true))
