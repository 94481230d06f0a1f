use Rattle.std.proofs.Common.{◌≡◌, drop}
use Rattle.jl_batch.specs.Lexemes.{without_blanks}
use Rattle.jl_batch.proofs.lexer.without_blanks.Given as goal

abbrev pub invariant-loop-i : goal.invariant-loop-i
invariant-loop-i l = without_blanks (drop l.i l.bytes) ≡ without_blanks l.bytes
