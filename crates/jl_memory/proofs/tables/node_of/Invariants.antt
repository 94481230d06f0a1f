use Rattle.std.proofs.Common.{◌≡◌, drop}
use Rattle.jl_memory.specs.Tables.{found_node}
use Rattle.jl_memory.proofs.tables.node_of.Given as goal

abbrev pub invariant-loop-entry : goal.invariant-loop-entry
invariant-loop-entry l = found_node (drop l.entry-index l.nodes) l.number ≡ found_node l.nodes l.number
