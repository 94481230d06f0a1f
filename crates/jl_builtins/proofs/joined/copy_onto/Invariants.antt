use Rattle.std.proofs.Common.{◌≡◌, ◌++◌, drop}
use Rattle.jl_value.specs.Form.{trees_of}
use Rattle.jl_builtins.proofs.joined.copy_onto.Given as goal

abbrev pub invariant-loop-member : goal.invariant-loop-member
invariant-loop-member l = trees_of l.members.items ++ trees_of (drop l.member-index l.more) ≡ trees_of l.fn.members.items ++ trees_of l.more
