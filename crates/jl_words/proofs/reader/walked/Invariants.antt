use Rattle.std.proofs.Common.{◌≡◌, length, map, string_bytes}
use Rattle.jl_words.specs.Parts.{reading_of}
use Rattle.jl_words.specs.Reading.{nothing_read, with_words}
use Rattle.jl_words.proofs.reader.walked.Given as goal

abbrev pub invariant-loop-rest : goal.invariant-loop-rest
invariant-loop-rest l = with_words (map (λ n. n.now) l.names) nothing_read (map string_bytes l.words) ≡ with_words (map (λ n. n.now) l.names) (reading_of l.reader) (map string_bytes l.rest)

abbrev pub decreases-loop-rest : goal.decreases-loop-rest
decreases-loop-rest l = length l.rest
