use Rattle.std.proofs.Common.{◌≡◌, ◌≤◌, ◌+◌, length, []}
use Rattle.jl_module.specs.Modules.{first_fault, lines}
use Rattle.jl_module.proofs.module.lines_fault.Given as goal

abbrev pub invariant-lines : goal.invariant-lines
invariant-lines l = (first_fault l.number l.names (lines l.left) ≡ first_fault 1 [] (lines l.fn.bytes)) × (l.number + length l.left ≤ 1048577)

abbrev pub decreases-lines : goal.decreases-lines
decreases-lines l = length l.left
