use Rattle.std.proofs.Common.{sym}
use Rattle.jl_builtins.proofs.WholeLemmas.{lengths_apart}
use Rattle.jl_builtins.proofs.same.are_numbers.Goals as goal

pub returns-then-items-numbers : goal.returns-then-items-numbers
returns-then-items-numbers c = sym (lengths_apart c.args.items.now c.args.numbers.now c.if-items-numbers.true)
