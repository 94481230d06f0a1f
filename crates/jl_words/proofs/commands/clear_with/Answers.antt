use Rattle.std.proofs.Common.{map, arith}
use Rattle.std.proofs.lemmas.List.{length-map}
use Rattle.jl_words.proofs.Lists.{too_many}
use Rattle.jl_words.proofs.commands.clear_with.Goals as goal

pub returns-in_default-clause-usage : goal.returns-in_default-clause-usage
returns-in_default-clause-usage c = λ _. too_many c.args.location (map (λ w. w.now) c.args.plain.now) (omega (arith, length-map c.args.plain.now (λ w. w.now)))
