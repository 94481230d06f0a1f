use Rattle.std.proofs.Common.{◌≡◌, ℕ, List, None, cond, map, take}
use Rattle.clap.specs.Words.{first_value, found_of}
use Rattle.jl_words.specs.Parsing.{has_option}
use Rattle.jl_words.specs.Parts.{uses_of}
use Rattle.jl_words.specs.Reading.{value_among}
use Rattle.jl_words.proofs.parser.given.Given as goal

abbrev pub invariant-loop-name : goal.invariant-loop-name
invariant-loop-name l = (n : List ℕ) → value_among (uses_of l.given.items) n ≡ cond (has_option n (take l.name-index (map (λ m. m.now) l.names))) (first_value (found_of l.matches) n) None
