use Rattle.std.proofs.Common.{◌≡◌, length}
use Rattle.jl_grammar.specs.Parser.{reduced}
use Rattle.jl_lexer.specs.Trees.{kept}
use Rattle.jl_grammar.proofs.stack.reduce.Given as goal

abbrev pub invariant-operations : goal.invariant-operations
invariant-operations l = reduced kept l.level l.stack l.tree ≡ reduced kept l.level l.fn.start l.fn.last

abbrev pub decreases-operations : goal.decreases-operations
decreases-operations l = length l.stack
