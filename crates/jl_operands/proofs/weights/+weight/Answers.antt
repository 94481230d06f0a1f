use Rattle.std.proofs.Common.{arith}
use Rattle.jl_value.proofs.Heights.{height_item, height_entry}
use Rattle.jl_operands.proofs.weights.+weight.Goals as goal

pub items_weight-weight-requires : goal.items_weight-weight-requires
items_weight-weight-requires t c =
    let low = height_item c.args.items.now c.loop-item.item-index c.item-item.result c.loop-item-test.true c.item-item.is in
    (omega arith, tt)

pub members_weight-weight-requires : goal.members_weight-weight-requires
members_weight-weight-requires t c =
    let low = height_entry c.args.members.now c.loop-key.key-index c.loop-key-item.result c.loop-key-test.true c.loop-key-item.is in
    (omega arith, tt)
