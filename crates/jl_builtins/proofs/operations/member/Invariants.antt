use Rattle.std.proofs.Common.{◌≡◌, drop}
use Rattle.jl_value.specs.Tree.{members_of}
use Rattle.jl_value.specs.Form.{entries_of}
use Rattle.jl_builtins.specs.Operations.{member_of}
use Rattle.jl_builtins.proofs.operations.member.Given as goal

abbrev pub invariant-loop-key : goal.invariant-loop-key
invariant-loop-key l = member_of l.name (members_of (entries_of (drop l.key-index l.members))) ≡ member_of l.name (members_of (entries_of l.members))
