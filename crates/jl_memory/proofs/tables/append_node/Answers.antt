use Rattle.std.proofs.Common.{◌<◌, ◌≤◌, length, arith, ap, ◌∙◌}
use Rattle.std.proofs.Math.ListN.{set}
use Rattle.jl_folder.specs.State.{appended}
use Rattle.jl_memory.specs.Tables.{found_node}
use Rattle.jl_memory.proofs.TableLemmas.{found_node-hit, found_node-miss}
use Rattle.jl_memory.proofs.tables.append_node.Goals as goal

pub returns-then-index-number-clause-ok : goal.returns-then-index-number-clause-ok
returns-then-index-number-clause-ok c = λ k.
    let lt : c.loop-i.i < length c.loop-i.nodes.items = omega (arith, ap length c.loop-i.invariant.same, c.len-i-end.ensures, c.args.nodes.now.ok.0) in
    ap (λ b. found_node (set c.loop-i.nodes.items c.loop-i.i (c.index_mut.result.now.0, record c.index_mut.result.now.1 { bytes = b })) k) c.in_ok-extend.ensures.ok
    ∙ found_node-hit (appended c.args.bytes.now) _ c.loop-i.nodes.items c.loop-i.i c.index.result.now c.index_mut.result.now _ c.loop-i.invariant.same lt c.index.ensures c.index_mut.ensures.value c.if-index-number.true c.loop-i.invariant.passed k

pub returns-clause-ok : goal.returns-clause-ok
returns-clause-ok c =
    let le : length c.loop-i.nodes.items ≤ c.loop-i.i = omega (arith, ap length c.loop-i.invariant.same, c.len-i-end.ensures, c.args.nodes.now.ok.0) in
    found_node-miss (appended c.args.bytes.now) _ c.loop-i.nodes.items c.loop-i.i _ c.loop-i.invariant.same le c.loop-i.invariant.passed
