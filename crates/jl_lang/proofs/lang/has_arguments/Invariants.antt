use Rattle.std.proofs.Common.{◌≡◌, drop, map}
use Rattle.jl_value.specs.Form.{entries_of}
use Rattle.jl_lang.specs.Meaning.{has_arguments}
use Rattle.jl_lang.proofs.lang.has_arguments.Given as goal

abbrev pub invariant-loop-name : goal.invariant-loop-name
invariant-loop-name l = has_arguments (map (λ x. x.now) (drop l.name-index l.names)) (entries_of l.members) ≡ has_arguments (map (λ x. x.now) l.names) (entries_of l.members)
