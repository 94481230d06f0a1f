use Rattle.std.proofs.Common.{sym, ap, ◌∙◌, w64, length, get_or, arith, rules}
use Rattle.std.specs.Prelude.{pos}
use Rattle.std.proofs.lemmas.Grind.{common_steps}
use Rattle.std.proofs.lemmas.Int.{to_z-of_z, ints}
use Rattle.jl_builtins.specs.Operations.{place_of}
use Rattle.jl_builtins.proofs.OperationLemmas.{number_placed}
use Rattle.jl_builtins.proofs.operations.number.Goals as goal

pub returns-in-Some : goal.returns-in-Some
returns-in-Some c =
    number_placed c.args.numbers.now c.args.at c.in-Some.place _
    (sym (c.place.ensures ∙ ap (place_of (length c.args.numbers.now)) (to_z-of_z w64 c.args.at c.ranges.at)) ∙ c.in-Some.is)
    (to_z-of_z w64 (get_or c.args.numbers.now c.in-Some.place (pos 0)) (first_of (omega (arith, ints), first_of (search rules, grind (arith, common_steps)))))
