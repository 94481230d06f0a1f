use Rattle.std.proofs.Common.{◌≡◌, drop}
use Rattle.jl_value.specs.Form.{entries_of}
use Rattle.jl_lang.specs.Meaning.{has_parameters}
use Rattle.jl_lang.proofs.lang.has_parameters.Given as goal

abbrev pub invariant-loop-key : goal.invariant-loop-key
invariant-loop-key l = has_parameters l.names (entries_of (drop l.key-index l.members)) ≡ has_parameters l.names (entries_of l.members)
