use Rattle.std.proofs.Common.{◌-◌, ◌^◌, ◌<◌, length, min, sym, ap, ◌∙◌, arith, rules}
use Rattle.std.proofs.lemmas.Grind.{common_steps}
use Rattle.jl_value.specs.Tree.{items_of}
use Rattle.jl_operands.specs.Steps.{items_weight}
use Rattle.jl_builtins.specs.Joined.{trees_listed}
use Rattle.jl_operands.proofs.WholeLemmas.{wholes_weight_low}
use Rattle.jl_builtins.proofs.joined.listed_weight.Goals as goal

pub returns-in-Wholes : goal.returns-in-Wholes
returns-in-Wholes c =
    let low : length c.in-Wholes.numbers.now < 2 ^ 64 = first_of (omega arith, first_of (search rules, grind (arith, common_steps))) in
    wholes_weight_low c.in-Wholes.numbers.now low
    ∙ ap (λ l. min (items_weight (items_of (trees_listed l))) (2 ^ 64 - 1)) (sym c.in-Wholes.is)
