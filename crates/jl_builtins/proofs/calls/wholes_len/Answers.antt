use Rattle.std.proofs.Common.{sym, ap}
use Rattle.std.specs.Prelude.{pos}
use Rattle.jl_builtins.specs.Arithmetic.{whole_within}
use Rattle.jl_builtins.proofs.WholeLemmas.{makes_by, wholes_count}
use Rattle.jl_builtins.proofs.calls.wholes_len.Goals as goal

pub returns : goal.returns
returns c = makes_by c.count_of.result _ _ (ap (λ n. whole_within (pos n)) (sym (wholes_count c.args.numbers.now))) c.count_of.ensures
