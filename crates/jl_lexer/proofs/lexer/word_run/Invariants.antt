use Rattle.std.proofs.Common.{◌≡◌, ◌+◌, drop}
use Rattle.jl_lexer.specs.Signs.{word_run}
use Rattle.jl_lexer.proofs.lexer.word_run.Given as goal

abbrev pub invariant-loop-i : goal.invariant-loop-i
invariant-loop-i l = word_run l.bytes ≡ l.i + word_run (drop l.i l.bytes)
