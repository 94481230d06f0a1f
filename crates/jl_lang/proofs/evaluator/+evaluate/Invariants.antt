use Rattle.std.proofs.Common.{◌≡◌, ◌+◌, ◌*◌, max, [], ◌∷◌, drop}
use Rattle.jl_value.specs.Tree.{members_of as pairs_of}
use Rattle.jl_value.specs.Form.{trees_of}
use Rattle.jl_value.specs.Proper.{AreKeys, keys}
use Rattle.jl_lexer.specs.Trees.{height, members_of, members_height, entries_of, entries_height}
use Rattle.jl_operands.specs.Lists.{each_over, filtered_over, wholes}
use Rattle.jl_operands.specs.Operands.{trees_gathered}
use Rattle.jl_lang.specs.Meaning.{value_of, members_value, entries_value}
use Rattle.jl_operands.specs.Outcomes.{pairs_in}
use Rattle.jl_lang.specs.Scopes.{scope_of}
use Rattle.jl_lang.proofs.evaluator.+evaluate.Given as goal

abbrev pub decreases-evaluate : goal.decreases-evaluate
decreases-evaluate l = 8 * height l.tree.now

abbrev pub decreases-before : goal.decreases-before
decreases-before l = 8 * height l.inner.now + 3

abbrev pub decreases-both : goal.decreases-both
decreases-both l = 8 * height l.right.now + 1

abbrev pub decreases-behind_left : goal.decreases-behind_left
decreases-behind_left l = 8 * height l.right.now + 2

abbrev pub decreases-between : goal.decreases-between
decreases-between l = 8 * max (height l.left.now) (height l.right.now) + 3

abbrev pub decreases-count_again : goal.decreases-count_again
decreases-count_again l = 8 * height l.tree.now + 1

abbrev pub decreases-choice : goal.decreases-choice
decreases-choice l = 8 * max (height l.first.now) (max (height l.condition.now) (height l.last.now)) + 3

abbrev pub decreases-index : goal.decreases-index
decreases-index l = 8 * max (height l.whole.now) (height l.at.now) + 3

abbrev pub decreases-call_value : goal.decreases-call_value
decreases-call_value l = 8 * height l.member.now + 3

abbrev pub decreases-range_value : goal.decreases-range_value
decreases-range_value l = 8 * max (height l.first.now) (height l.end.now) + 3

abbrev pub decreases-list_value : goal.decreases-list_value
decreases-list_value l = 8 * members_height (members_of l.members.now) + 3

abbrev pub decreases-table_value : goal.decreases-table_value
decreases-table_value l = 8 * entries_height (entries_of l.entries.now) + 3

abbrev pub decreases-list_of_each : goal.decreases-list_of_each
decreases-list_of_each l = 8 * max (height l.member.now) (height l.over.now) + 4

abbrev pub decreases-list_over : goal.decreases-list_over
decreases-list_over l = 8 * height l.member.now + 3

abbrev pub decreases-list_over_values : goal.decreases-list_over_values
decreases-list_over_values l = 8 * height l.member.now + 2

abbrev pub decreases-list_over_numbers : goal.decreases-list_over_numbers
decreases-list_over_numbers l = 8 * height l.member.now + 2

abbrev pub decreases-at_number : goal.decreases-at_number
decreases-at_number l = 8 * height l.member.now + 1

abbrev pub decreases-list_of_some : goal.decreases-list_of_some
decreases-list_of_some l = 8 * max (height l.member.now) (max (height l.over.now) (height l.condition.now)) + 5

abbrev pub decreases-filter_over : goal.decreases-filter_over
decreases-filter_over l = 8 * max (height l.member.now) (height l.condition.now) + 4

abbrev pub decreases-filter_over_values : goal.decreases-filter_over_values
decreases-filter_over_values l = 8 * max (height l.member.now) (height l.condition.now) + 3

abbrev pub decreases-filter_over_numbers : goal.decreases-filter_over_numbers
decreases-filter_over_numbers l = 8 * max (height l.member.now) (height l.condition.now) + 3

abbrev pub decreases-take_number : goal.decreases-take_number
decreases-take_number l = 8 * max (height l.member.now) (height l.condition.now) + 2

abbrev pub decreases-take_member : goal.decreases-take_member
decreases-take_member l = 8 * max (height l.member.now) (height l.condition.now) + 1

abbrev pub invariant-list_value-loop-member : goal.invariant-list_value-loop-member
invariant-list_value-loop-member l =
    members_value (scope_of l.scope) (members_of (drop l.member-index l.members)) (trees_gathered l.values) l.steps
    ≡ members_value (scope_of l.scope) (members_of l.members) [] l.fn.start

abbrev pub invariant-table_value-loop-entry : goal.invariant-table_value-loop-entry
invariant-table_value-loop-entry l =
    AreKeys (keys (pairs_of (pairs_in l.members.entries)))
    × (entries_value (scope_of l.scope) (entries_of (drop l.entry-index l.entries)) (pairs_in l.members.entries) l.steps ≡ entries_value (scope_of l.scope) (entries_of l.entries) [] l.fn.start)

abbrev pub invariant-list_over_values-loop-item : goal.invariant-list_over_values-loop-item
invariant-list_over_values-loop-item l =
    each_over (λ u k. value_of ((l.variable, u) ∷ scope_of l.scope) l.member k) (trees_of (drop l.item-index l.items)) (trees_gathered l.values) l.steps
    ≡ each_over (λ u k. value_of ((l.variable, u) ∷ scope_of l.scope) l.member k) (trees_of l.items) [] l.fn.start

abbrev pub invariant-list_over_numbers-loop-number : goal.invariant-list_over_numbers-loop-number
invariant-list_over_numbers-loop-number l =
    each_over (λ u k. value_of ((l.variable, u) ∷ scope_of l.scope) l.member k) (wholes (drop l.number-index l.numbers)) (trees_gathered l.values) l.steps
    ≡ each_over (λ u k. value_of ((l.variable, u) ∷ scope_of l.scope) l.member k) (wholes l.numbers) [] l.fn.start

abbrev pub invariant-filter_over_values-loop-item : goal.invariant-filter_over_values-loop-item
invariant-filter_over_values-loop-item l =
    filtered_over (λ u k. value_of ((l.variable, u) ∷ scope_of l.scope) l.condition k) (λ u k. value_of ((l.variable, u) ∷ scope_of l.scope) l.member k) (trees_of (drop l.item-index l.items)) (trees_gathered l.values) l.steps
    ≡ filtered_over (λ u k. value_of ((l.variable, u) ∷ scope_of l.scope) l.condition k) (λ u k. value_of ((l.variable, u) ∷ scope_of l.scope) l.member k) (trees_of l.items) [] l.fn.start

abbrev pub invariant-filter_over_numbers-loop-number : goal.invariant-filter_over_numbers-loop-number
invariant-filter_over_numbers-loop-number l =
    filtered_over (λ u k. value_of ((l.variable, u) ∷ scope_of l.scope) l.condition k) (λ u k. value_of ((l.variable, u) ∷ scope_of l.scope) l.member k) (wholes (drop l.number-index l.numbers)) (trees_gathered l.taken.values) l.taken.steps
    ≡ filtered_over (λ u k. value_of ((l.variable, u) ∷ scope_of l.scope) l.condition k) (λ u k. value_of ((l.variable, u) ∷ scope_of l.scope) l.member k) (wholes l.numbers) [] l.fn.start
