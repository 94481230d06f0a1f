use Rattle.std.proofs.Common.{◌≡◌, drop}
use Rattle.jl_value.specs.Form.{entries_of}
use Rattle.jl_lang.specs.Meaning.{has_argument}
use Rattle.jl_lang.proofs.lang.has_argument.Given as goal

abbrev pub invariant-loop-key : goal.invariant-loop-key
invariant-loop-key l = has_argument (entries_of (drop l.key-index l.members)) l.name ≡ has_argument (entries_of l.members) l.name
