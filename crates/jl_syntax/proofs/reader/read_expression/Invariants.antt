use Rattle.std.proofs.Common.{◌≡◌, [], length}
use Rattle.jl_lexer.specs.Signs.{signs}
use Rattle.jl_grammar.specs.Parser.{run}
use Rattle.jl_lexer.specs.Trees.{kept}
use Rattle.jl_grammar.specs.declared.mode.Mode.TheVariants.{WantsOperand}
use Rattle.jl_syntax.proofs.reader.read_expression.Given as goal

abbrev pub invariant-signs : goal.invariant-signs
invariant-signs l = run kept 128 l.reader.stack l.reader.mode (signs l.left) ≡ run kept 128 [] WantsOperand (signs l.fn.bytes)

abbrev pub decreases-signs : goal.decreases-signs
decreases-signs l = length l.left
