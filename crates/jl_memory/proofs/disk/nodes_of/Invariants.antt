use Rattle.std.proofs.Common.{◌≡◌, take}
use Rattle.std.specs.List.{enumerate_from}
use Rattle.jl_memory.proofs.disk.nodes_of.Given as goal

abbrev pub invariant-loop-node : goal.invariant-loop-node
invariant-loop-node l = record { count : l.number ≡ l.node-index; copied : l.nodes.items ≡ enumerate_from 0 (take l.node-index l.start) }
