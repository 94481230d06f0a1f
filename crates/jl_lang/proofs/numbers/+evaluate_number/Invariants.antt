use Rattle.std.proofs.Common.{◌+◌, ◌*◌, max}
use Rattle.jl_lexer.specs.Trees.{height}
use Rattle.jl_lang.proofs.numbers.+evaluate_number.Given as goal

abbrev pub decreases-evaluate_number : goal.decreases-evaluate_number
decreases-evaluate_number l = 2 * height l.tree.now

abbrev pub decreases-number_between : goal.decreases-number_between
decreases-number_between l = 2 * max (height l.left.now) (height l.right.now) + 1
