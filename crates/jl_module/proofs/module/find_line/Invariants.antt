use Rattle.std.proofs.Common.{◌≡◌, ◌≤◌, ◌+◌, length}
use Rattle.jl_module.specs.Modules.{find_from, lines}
use Rattle.jl_module.proofs.module.find_line.Given as goal

abbrev pub invariant-lines : goal.invariant-lines
invariant-lines l = (find_from l.number l.name (lines l.left) ≡ find_from 1 l.name (lines l.fn.bytes)) × (l.number + length l.left ≤ length l.fn.bytes + 1)

abbrev pub decreases-lines : goal.decreases-lines
decreases-lines l = length l.left
