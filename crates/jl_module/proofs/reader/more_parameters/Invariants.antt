use Rattle.std.proofs.Common.{◌≡◌, length}
use Rattle.jl_lexer.specs.Signs.{signs}
use Rattle.jl_module.specs.Headings.{more_parameters}
use Rattle.jl_module.proofs.reader.more_parameters.Given as goal

abbrev pub invariant-parameters : goal.invariant-parameters
invariant-parameters l = more_parameters l.names (signs l.left) ≡ more_parameters l.fn.first (signs l.fn.bytes)

abbrev pub decreases-parameters : goal.decreases-parameters
decreases-parameters l = length l.left
