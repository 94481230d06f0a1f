use Rattle.std.proofs.Common.{◌≡◌, ◌+◌, ◌*◌, max, drop}
use Rattle.jl_lexer.specs.Trees.{members_of, entries_of, height, members_height, entries_height}
use Rattle.jl_module.specs.Headings.{members_known, entries_known}
use Rattle.jl_module.specs.Scopes.{names_among}
use Rattle.jl_module.proofs.known.+known.Given as goal

abbrev pub decreases-are_known : goal.decreases-are_known
decreases-are_known l = 3 * height l.tree.now

abbrev pub decreases-both_known : goal.decreases-both_known
decreases-both_known l = 3 * max (height l.first.now) (height l.last.now) + 1

abbrev pub decreases-choice_known : goal.decreases-choice_known
decreases-choice_known l = 3 * max (height l.first.now) (max (height l.condition.now) (height l.last.now)) + 2

abbrev pub decreases-each_known : goal.decreases-each_known
decreases-each_known l = 3 * max (height l.member.now) (height l.source.now) + 2

abbrev pub decreases-filtered_known : goal.decreases-filtered_known
decreases-filtered_known l = 3 * max (height l.member.now) (max (height l.source.now) (height l.condition.now)) + 2

abbrev pub decreases-members_known : goal.decreases-members_known
decreases-members_known l = 3 * members_height (members_of l.members.now) + 1

abbrev pub decreases-entries_known : goal.decreases-entries_known
decreases-entries_known l = 3 * entries_height (entries_of l.entries.now) + 1

abbrev pub invariant-members_known-loop-member : goal.invariant-members_known-loop-member
invariant-members_known-loop-member l = members_known (names_among l.variables l.names) (members_of (drop l.member-index l.members)) ≡ members_known (names_among l.variables l.names) (members_of l.members)

abbrev pub invariant-entries_known-loop-entry : goal.invariant-entries_known-loop-entry
invariant-entries_known-loop-entry l = entries_known (names_among l.variables l.names) (entries_of (drop l.entry-index l.entries)) ≡ entries_known (names_among l.variables l.names) (entries_of l.entries)
