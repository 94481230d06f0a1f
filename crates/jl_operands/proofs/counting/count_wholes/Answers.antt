use Rattle.std.proofs.Common.{◌+◌, ◌-◌, ◌^◌, List, length, min, ap, ◌∙◌}
use Rattle.std.specs.Prelude.{ℤ, Some, None}
use Rattle.jl_operands.specs.Operands.{list_of_wholes}
use Rattle.jl_operands.proofs.CountLemmas.{counted_is}
use Rattle.jl_operands.proofs.WholeLemmas.{list_weight_of}
use Rattle.jl_operands.proofs.counting.count_wholes.Goals as goal

pub returns-in-Some : goal.returns-in-Some
returns-in-Some c =
    counted_is (Some c.in-Some.steps) c.args.steps c.length_weight.result (list_of_wholes c.args.numbers.items)
    (list_weight_of c.args.numbers.items c.length_weight.result (c.length_weight.ensures ∙ ap (λ (zs : List ℤ). min (1 + length zs) (2 ^ 64 - 1)) c.as_slice.ensures.value)) c.in-Some.ensures

pub returns-in-None : goal.returns-in-None
returns-in-None c =
    counted_is None c.args.steps c.length_weight.result (list_of_wholes c.args.numbers.items)
    (list_weight_of c.args.numbers.items c.length_weight.result (c.length_weight.ensures ∙ ap (λ (zs : List ℤ). min (1 + length zs) (2 ^ 64 - 1)) c.as_slice.ensures.value)) c.in-None.ensures
