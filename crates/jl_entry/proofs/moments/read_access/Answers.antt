use Rattle.std.proofs.Common.{ap, length, arith}
use Rattle.jl_entry.proofs.MomentFacts.{access_ends}
use Rattle.jl_entry.proofs.moments.read_access.Goals as goal

pub returns-then-moment-gt0 : goal.returns-then-moment-gt0
returns-then-moment-gt0 c = λ n h.
    let ends = access_ends c.args.bytes.now c.in-Some.moment.rest.now c.in-Some.moment.number n c.in-Some.ensures.0 c.in-Some.ensures.1 h in
    omega (arith, ap length ends.1)
