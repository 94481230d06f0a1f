use Rattle.jl_builtins.proofs.WholeLemmas.{makes_by, wholes_best}
use Rattle.jl_builtins.proofs.calls.wholes_best.Goals as goal

pub returns : goal.returns
returns c = makes_by c.numbers_best.result _ _ (wholes_best c.args.least c.args.numbers.now) c.numbers_best.ensures
