use Rattle.std.proofs.Common.{◌≡◌, ◌≤◌, ◌-◌}
use Rattle.std.specs.Prelude.{pos, ◌+ℤ◌}
use Rattle.jl_value.specs.Tree.{items_of}
use Rattle.jl_operands.specs.Lists.{wholes}
use Rattle.jl_builtins.specs.Operations.{both_items}
use Rattle.jl_builtins.specs.Calls.{items_from}
use Rattle.jl_builtins.proofs.calls.numbers_from.Given as goal

abbrev pub invariant-members : goal.invariant-members
invariant-members l = (l.next ≡ l.first +ℤ pos l.made) × (l.made ≤ l.count) × (both_items (items_of (wholes l.members.items)) (items_from l.next (l.count - l.made)) ≡ items_from l.first l.count)

abbrev pub decreases-members : goal.decreases-members
decreases-members l = l.count - l.made
