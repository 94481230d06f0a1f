use Rattle.std.proofs.Common.{◌≡◌, ◌++◌, take}
use Rattle.jl_memory.specs.Scripts.{named_in}
use Rattle.jl_memory.proofs.script.add_named.Given as goal

abbrev pub invariant-loop-entry : goal.invariant-loop-entry
invariant-loop-entry l = l.named.items ≡ l.initial.named.items ++ named_in (take l.entry-index l.moves)
