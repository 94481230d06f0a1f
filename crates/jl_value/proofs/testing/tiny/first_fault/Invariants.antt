use Rattle.std.proofs.Common.{◌≡◌, ◌+◌, [], drop, take}
use Rattle.jl_value.specs.Tiny.{fault_in}
use Rattle.jl_value.proofs.testing.tiny.first_fault.Given as goal

abbrev pub invariant-loop-i : goal.invariant-loop-i
invariant-loop-i l = fault_in [] 1 l.lines ≡ fault_in (take l.i l.lines) (l.i + 1) (drop l.i l.lines)
