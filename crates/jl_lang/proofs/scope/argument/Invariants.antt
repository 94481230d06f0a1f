use Rattle.std.proofs.Common.{◌≡◌, drop}
use Rattle.jl_value.specs.Form.{entries_of}
use Rattle.jl_lang.specs.Meaning.{argument}
use Rattle.jl_lang.proofs.scope.argument.Given as goal

abbrev pub invariant-loop-key : goal.invariant-loop-key
invariant-loop-key l = argument l.name (entries_of (drop l.key-index l.members)) ≡ argument l.name (entries_of l.members)
