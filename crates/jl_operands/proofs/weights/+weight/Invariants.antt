use Rattle.std.proofs.Common.{◌≡◌, ◌<◌, ◌+◌, ◌-◌, ◌*◌, ◌^◌, drop, min}
use Rattle.jl_value.specs.Tree.{items_of, members_of, height, items_height, members_height}
use Rattle.jl_value.specs.Form.{tree_of, trees_of, entries_of}
use Rattle.jl_operands.specs.Steps.{items_weight, members_weight}
use Rattle.jl_operands.proofs.weights.+weight.Given as goal

abbrev pub decreases-weight : goal.decreases-weight
decreases-weight l = 2 * height (tree_of l.value.now)

abbrev pub decreases-items_weight : goal.decreases-items_weight
decreases-items_weight l = 2 * items_height (items_of (trees_of l.items.now)) + 1

abbrev pub decreases-members_weight : goal.decreases-members_weight
decreases-members_weight l = 2 * members_height (members_of (entries_of l.members.now)) + 1

abbrev pub invariant-items_weight-loop-item : goal.invariant-items_weight-loop-item
invariant-items_weight-loop-item l = (l.total < 2 ^ 64) × (min (l.total + items_weight (items_of (trees_of (drop l.item-index l.items)))) (2 ^ 64 - 1) ≡ min (items_weight (items_of (trees_of l.items))) (2 ^ 64 - 1))

abbrev pub invariant-members_weight-loop-key : goal.invariant-members_weight-loop-key
invariant-members_weight-loop-key l = (l.total < 2 ^ 64) × (min (l.total + members_weight (members_of (entries_of (drop l.key-index l.members)))) (2 ^ 64 - 1) ≡ min (members_weight (members_of (entries_of l.members))) (2 ^ 64 - 1))
