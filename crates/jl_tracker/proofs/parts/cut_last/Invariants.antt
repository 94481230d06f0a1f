use Rattle.std.proofs.Common.{◌≡◌, ◌≤◌, false, length, drop}
use Rattle.jl_tracker.specs.Parts.{has_colon}
use Rattle.jl_tracker.proofs.parts.cut_last.Given as goal

abbrev pub invariant-back : goal.invariant-back
invariant-back l = record { within : l.at ≤ length l.bytes; none : has_colon (drop l.at l.bytes) ≡ false }

abbrev pub decreases-back : goal.decreases-back
decreases-back l = l.at
