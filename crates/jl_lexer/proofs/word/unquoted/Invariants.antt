use Rattle.std.proofs.Common.{◌≡◌, drop, false}
use Rattle.jl_lexer.specs.Words.{unquoted}
use Rattle.jl_lexer.specs.Constants.{behind_bytes}
use Rattle.jl_lexer.proofs.word.unquoted.Given as goal

abbrev pub invariant-loop-i : goal.invariant-loop-i
invariant-loop-i l = behind_bytes l.text.items (unquoted l.escaped (drop l.i l.bytes)) ≡ unquoted false l.bytes
