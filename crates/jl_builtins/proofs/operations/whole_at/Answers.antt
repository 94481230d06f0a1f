use Rattle.std.proofs.Common.{ap, ◌∙◌, length, w64}
use Rattle.std.proofs.lemmas.Int.{to_z-of_z}
use Rattle.jl_builtins.specs.Operations.{number_at, place_of, at_place}
use Rattle.jl_builtins.proofs.WholeLemmas.{makes_by, wholes_placed}
use Rattle.jl_builtins.proofs.operations.whole_at.Goals as goal

pub returns : goal.returns
returns c =
    makes_by c.number.result _ _
    (ap (λ z. at_place (number_at c.args.numbers.now) (place_of (length c.args.numbers.now) z)) (to_z-of_z w64 c.args.at c.ranges.at)
    ∙ wholes_placed c.args.numbers.now c.args.at)
    c.number.ensures
