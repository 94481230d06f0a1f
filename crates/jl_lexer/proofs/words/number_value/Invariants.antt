use Rattle.std.proofs.Common.{◌≡◌, ◌^◌, ◌<◌, drop, true}
use Rattle.std.specs.List.{list_all}
use Rattle.jl_lexer.specs.Signs.{is_digit}
use Rattle.jl_lexer.specs.Words.{number_behind}
use Rattle.jl_lexer.proofs.words.number_value.Given as goal

abbrev pub invariant-loop-digit : goal.invariant-loop-digit
invariant-loop-digit l = (number_behind l.value (drop l.digit-index l.word) ≡ number_behind 0 l.word) × (l.value < 2 ^ 63) × (list_all is_digit (drop l.digit-index l.word) ≡ true)
