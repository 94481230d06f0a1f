use Rattle.std.proofs.Common.{◌≡◌, ◌+◌, ◌*◌, drop, length}
use Rattle.jl_value.specs.Tree.{items_of, members_of, height, items_height, members_height}
use Rattle.jl_value.specs.Form.{tree_of, trees_of, entries_of}
use Rattle.jl_value.specs.Same.{items_eq, members_eq}
use Rattle.jl_value.proofs.equal.+same.Given as goal

abbrev pub decreases-same : goal.decreases-same
decreases-same l = 2 * height (tree_of l.a.now)

abbrev pub decreases-same_list : goal.decreases-same_list
decreases-same_list l = 2 * items_height (items_of (trees_of l.a.now)) + 1

abbrev pub decreases-same_table : goal.decreases-same_table
decreases-same_table l = 2 * members_height (members_of (entries_of l.a.now)) + 1

abbrev pub invariant-same_list-loop-i : goal.invariant-same_list-loop-i
invariant-same_list-loop-i l =
    (length l.a ≡ length l.b)
    × (items_eq (items_of (trees_of l.a)) (items_of (trees_of l.b)) ≡ items_eq (items_of (trees_of (drop l.i l.a))) (items_of (trees_of (drop l.i l.b))))

abbrev pub invariant-same_table-loop-i : goal.invariant-same_table-loop-i
invariant-same_table-loop-i l =
    (length l.a ≡ length l.b)
    × (members_eq (members_of (entries_of l.a)) (members_of (entries_of l.b)) ≡ members_eq (members_of (entries_of (drop l.i l.a))) (members_of (entries_of (drop l.i l.b))))
