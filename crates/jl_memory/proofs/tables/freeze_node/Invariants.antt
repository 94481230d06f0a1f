use Rattle.std.proofs.Common.{◌≡◌, ◌++◌, take, drop}
use Rattle.jl_folder.specs.State.{frozen_node}
use Rattle.jl_memory.specs.Tables.{with_node}
use Rattle.jl_memory.proofs.tables.freeze_node.Given as goal

abbrev pub invariant-loop-i : goal.invariant-loop-i
invariant-loop-i l = record {
  same : l.nodes.items ≡ l.initial.nodes.items;
  passed : with_node frozen_node l.nodes.items l.number ≡ take l.i l.nodes.items ++ with_node frozen_node (drop l.i l.nodes.items) l.number;
}
