use Rattle.std.proofs.Common.{◌≡◌, length}
use Rattle.jl_tracker.specs.Parts.{strip_end}
use Rattle.jl_tracker.proofs.parts.strip_end.Given as goal

abbrev pub invariant-back : goal.invariant-back
invariant-back l = strip_end l.bytes ≡ strip_end l.initial.bytes

abbrev pub decreases-back : goal.decreases-back
decreases-back l = length l.bytes
