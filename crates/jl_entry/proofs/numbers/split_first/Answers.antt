use Rattle.std.proofs.Common.{◌==◌}
use Rattle.jl_entry.proofs.DecimalEnds.{position_none, parts_at}
use Rattle.jl_entry.proofs.numbers.split_first.Goals as goal

pub returns-in_default : goal.returns-in_default
returns-in_default c = position_none (λ b. b == c.args.stop) c.args.bytes.now (cc)

pub returns : goal.returns
returns c = parts_at (λ b. b == c.args.stop) c.args.bytes.now c.in-Some.at (cc)
