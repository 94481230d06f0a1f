use Rattle.std.proofs.Common.{◌≡◌, length}
use Rattle.jl_words.specs.Parts.{uses_of}
use Rattle.jl_words.specs.Reading.{value_among}
use Rattle.jl_words.proofs.parts.value_among.Given as goal

abbrev pub invariant-loop-rest : goal.invariant-loop-rest
invariant-loop-rest l = value_among (uses_of l.given) l.name ≡ value_among (uses_of l.rest) l.name

abbrev pub decreases-loop-rest : goal.decreases-loop-rest
decreases-loop-rest l = length l.rest
