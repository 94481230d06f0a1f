use Rattle.std.proofs.Common.{◌≡◌, ◌+◌, drop, false}
use Rattle.jl_lexer.specs.Signs.{text_run}
use Rattle.jl_lexer.proofs.lexer.text_run.Given as goal

abbrev pub invariant-loop-i : goal.invariant-loop-i
invariant-loop-i l = text_run false l.bytes ≡ l.i + text_run l.escaped (drop l.i l.bytes)
