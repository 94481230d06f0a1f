use Rattle.std.proofs.Common.{◌≡◌, ◌+◌, ◌*◌, drop}
use Rattle.std.specs.Prelude.{nat_le}
use Rattle.jl_value.specs.Tree.{items_of, members_of, items_nesting, members_nesting}
use Rattle.jl_value.specs.Form.{trees_of, entries_of}
use Rattle.jl_operands.proofs.weights.+nests.Given as goal

abbrev pub decreases-nests_within : goal.decreases-nests_within
decreases-nests_within l = 2 * l.depth

abbrev pub decreases-items_nest_within : goal.decreases-items_nest_within
decreases-items_nest_within l = 2 * l.depth + 1

abbrev pub decreases-members_nest_within : goal.decreases-members_nest_within
decreases-members_nest_within l = 2 * l.depth + 1

abbrev pub invariant-items_nest_within-loop-item : goal.invariant-items_nest_within-loop-item
invariant-items_nest_within-loop-item l = nat_le (items_nesting (items_of (trees_of (drop l.item-index l.items)))) l.depth ≡ nat_le (items_nesting (items_of (trees_of l.items))) l.depth

abbrev pub invariant-members_nest_within-loop-member : goal.invariant-members_nest_within-loop-member
invariant-members_nest_within-loop-member l = nat_le (members_nesting (members_of (entries_of (drop l.member-index l.members)))) l.depth ≡ nat_le (members_nesting (members_of (entries_of l.members))) l.depth
