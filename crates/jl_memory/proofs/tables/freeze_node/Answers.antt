use Rattle.std.proofs.Common.{◌<◌, ◌≤◌, length, arith, ap}
use Rattle.jl_folder.specs.State.{frozen_node}
use Rattle.jl_memory.proofs.TableLemmas.{found_node-hit, found_node-miss}
use Rattle.jl_memory.proofs.tables.freeze_node.Goals as goal

pub returns-then-index-number : goal.returns-then-index-number
returns-then-index-number c =
    let lt : c.loop-i.i < length c.loop-i.nodes.items = omega (arith, ap length c.loop-i.invariant.same, c.len-i-end.ensures, c.args.nodes.now.ok.0) in
    found_node-hit frozen_node _ c.loop-i.nodes.items c.loop-i.i c.index.result.now c.index_mut.result.now _ c.loop-i.invariant.same lt c.index.ensures c.index_mut.ensures.value c.if-index-number.true c.loop-i.invariant.passed

pub returns : goal.returns
returns c =
    let le : length c.loop-i.nodes.items ≤ c.loop-i.i = omega (arith, ap length c.loop-i.invariant.same, c.len-i-end.ensures, c.args.nodes.now.ok.0) in
    found_node-miss frozen_node _ c.loop-i.nodes.items c.loop-i.i _ c.loop-i.invariant.same le c.loop-i.invariant.passed
