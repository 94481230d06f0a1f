use Rattle.std.proofs.Common.{◌≡◌, drop}
use Rattle.jl_lexer.specs.Signs.{signs}
use Rattle.jl_lexer.proofs.lexer.without_gaps.Given as goal

abbrev pub invariant-loop-i : goal.invariant-loop-i
invariant-loop-i l = signs (drop l.i l.bytes) ≡ signs l.bytes
