use Rattle.std.proofs.Common.{◌≡◌, ◌≤◌, length, take}
use Rattle.jl_module.specs.Modules.{trimmed}
use Rattle.jl_module.proofs.module.trim_end.Given as goal

abbrev pub invariant-loop-end : goal.invariant-loop-end
invariant-loop-end l = (l.end ≤ length l.line) × (trimmed (take l.end l.line) ≡ trimmed l.line)

abbrev pub decreases-loop-end : goal.decreases-loop-end
decreases-loop-end l = l.end
