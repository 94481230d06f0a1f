use Rattle.std.proofs.Common.{arith}
use Rattle.jl_module.proofs.LineLemmas.{line_split, line_alone}
use Rattle.jl_module.proofs.module.split_line.Goals as goal

pub returns-then-b-eq10 : goal.returns-then-b-eq10
returns-then-b-eq10 c = line_split c.args.text.now c.loop-i.i (omega arith) c.if-b-eq10.true c.loop-i.invariant

pub returns : goal.returns
returns c = line_alone c.args.text.now (λ k h. c.loop-i.invariant k (omega arith))
