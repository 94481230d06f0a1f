use Rattle.std.specs.Prelude.{pos}
use Rattle.jl_builtins.proofs.WholeLemmas.{makes_by, wholes_sum}
use Rattle.jl_builtins.proofs.calls.wholes_sum.Goals as goal

pub returns : goal.returns
returns c = makes_by c.numbers_sum.result _ _ (wholes_sum (pos 0) c.args.numbers.now) c.numbers_sum.ensures
