use Rattle.std.proofs.Common.{◌≡◌, length}
use Rattle.jl_words.specs.Parts.{uses_of}
use Rattle.jl_words.specs.Reading.{is_given}
use Rattle.jl_words.proofs.reader.is_given.Given as goal

abbrev pub invariant-loop-rest : goal.invariant-loop-rest
invariant-loop-rest l = is_given l.name (uses_of l.given) ≡ is_given l.name (uses_of l.rest)

abbrev pub decreases-loop-rest : goal.decreases-loop-rest
decreases-loop-rest l = length l.rest
