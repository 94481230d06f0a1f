use Rattle.std.proofs.Common.{sym, arith}
use Rattle.jl_value.proofs.Heights.{height_item, at_entry}
use Rattle.jl_value.proofs.Lengths.{items_apart, entries_apart}
use Rattle.jl_value.proofs.equal.+same.Goals as goal

pub same_list-returns-then-a-b : goal.same_list-returns-then-a-b
same_list-returns-then-a-b t c = sym (items_apart c.args.a.now c.args.b.now c.if-a-b.true)

pub same_list-same-requires : goal.same_list-same-requires
same_list-same-requires t c =
    let low = height_item c.args.a.now c.loop-i.i c.index-a-i.result c.loop-i-test.true c.index-a-i.is in
    (omega arith, tt)

pub same_table-returns-then-a-b : goal.same_table-returns-then-a-b
same_table-returns-then-a-b t c = sym (entries_apart c.args.a.now c.args.b.now c.if-a-b.true)

pub same_table-same-requires : goal.same_table-same-requires
same_table-same-requires t c =
    let low = at_entry c.args.a.now c.loop-i.i c.index-a-i-else-ne.result c.loop-i-test.true in
    (omega arith, tt)
