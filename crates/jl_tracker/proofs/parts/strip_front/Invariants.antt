use Rattle.std.proofs.Common.{◌≡◌, length}
use Rattle.jl_tracker.specs.Parts.{strip_front}
use Rattle.jl_tracker.proofs.parts.strip_front.Given as goal

abbrev pub invariant-front : goal.invariant-front
invariant-front l = strip_front l.bytes ≡ strip_front l.initial.bytes

abbrev pub decreases-front : goal.decreases-front
decreases-front l = length l.bytes
