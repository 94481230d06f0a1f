use Rattle.std.proofs.Common.{◌≡◌}
use Rattle.jl_batch.specs.Expressions.{negated}
use Rattle.jl_batch.proofs.parser.negate.Given as goal

abbrev pub invariant-loop-left : goal.invariant-loop-left
invariant-loop-left l = negated l.left l.value ≡ negated l.fn.minuses l.fn.x

abbrev pub decreases-loop-left : goal.decreases-loop-left
decreases-loop-left l = l.left
