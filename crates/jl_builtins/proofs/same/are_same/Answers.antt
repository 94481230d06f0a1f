use Rattle.std.proofs.Common.{sym, ◌∙◌}
use Rattle.jl_builtins.proofs.WholeLemmas.{wholes_same}
use Rattle.jl_builtins.proofs.same.are_same.Goals as goal

pub returns : goal.returns
returns c = c.same_numbers.ensures ∙ sym (wholes_same c.args.left.now c.args.right.now)
