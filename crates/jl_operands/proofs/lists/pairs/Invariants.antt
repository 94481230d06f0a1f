use Rattle.std.proofs.Common.{◌≡◌}
use Rattle.jl_value.specs.Form.{entries_of}
use Rattle.jl_operands.specs.Outcomes.{pairs_in}
use Rattle.jl_operands.proofs.lists.pairs.Given as goal

abbrev pub invariant-loop-key : goal.invariant-loop-key
invariant-loop-key l = entries_of l.found.items ≡ pairs_in l.yielded
