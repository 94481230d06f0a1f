use Rattle.std.proofs.Common.{[], ◌∷◌, ◌++◌, ap, ◌∙◌, w64}
use Rattle.std.proofs.lemmas.Int.{to_z-of_z}
use Rattle.jl_operands.specs.Lists.{wholes}
use Rattle.jl_operands.proofs.WholeLemmas.{wholes_push}
use Rattle.jl_operands.proofs.gathered.push_number.Goals as goal

pub returns : goal.returns
returns c =
    ap wholes (c.in_ok-push.ensures.items ∙ ap (λ z. c.args.numbers.items ++ z ∷ []) (to_z-of_z w64 c.args.number c.ranges.number))
    ∙ wholes_push c.args.numbers.items c.args.number
