use Rattle.std.proofs.Common.{◌≡◌, ◌+◌, ◌*◌, ◌++◌, drop}
use Rattle.jl_value.specs.Tree.{items_of, members_of, height, items_height, members_height}
use Rattle.jl_value.specs.Form.{tree_of, trees_of, entries_of}
use Rattle.jl_value.specs.Tokens.{list_tokens, table_tokens}
use Rattle.jl_value.specs.Proper.{AreProper, HasProper}
use Rattle.jl_value.proofs.writing.+write.Given as goal

abbrev pub decreases-write : goal.decreases-write
decreases-write l = 2 * height (tree_of l.value.now)

abbrev pub decreases-write_list : goal.decreases-write_list
decreases-write_list l = 2 * items_height (items_of (trees_of l.members.now)) + 1

abbrev pub decreases-write_table : goal.decreases-write_table
decreases-write_table l = 2 * members_height (members_of (entries_of l.members.now)) + 1

abbrev pub invariant-write_list-loop-member : goal.invariant-write_list-loop-member
invariant-write_list-loop-member l =
    (l.writer.before ≡ l.initial.writer.before)
    × (l.writer.tokens ++ list_tokens (drop l.member-index l.members) ≡ l.initial.writer.tokens ++ list_tokens l.members)
    × (AreProper (items_of (trees_of (drop l.member-index l.members))) → AreProper (items_of (trees_of l.members)))

abbrev pub invariant-write_table-loop-key : goal.invariant-write_table-loop-key
invariant-write_table-loop-key l =
    (l.writer.before ≡ l.initial.writer.before)
    × (l.writer.tokens ++ table_tokens (drop l.key-index l.members) ≡ l.initial.writer.tokens ++ table_tokens l.members)
    × (HasProper (members_of (entries_of (drop l.key-index l.members))) → HasProper (members_of (entries_of l.members)))
