use Rattle.std.proofs.Common.{◌≡◌, ◌++◌, take, drop}
use Rattle.jl_folder.specs.State.{appended}
use Rattle.jl_memory.specs.Tables.{with_node}
use Rattle.jl_memory.proofs.tables.append_node.Given as goal

abbrev pub invariant-loop-i : goal.invariant-loop-i
invariant-loop-i l = record {
  same : l.nodes.items ≡ l.initial.nodes.items;
  passed : with_node (appended l.bytes) l.nodes.items l.number ≡ take l.i l.nodes.items ++ with_node (appended l.bytes) (drop l.i l.nodes.items) l.number;
}
