use Rattle.std.proofs.Common.{◌≡◌, drop}
use Rattle.std.specs.Prelude.{pos}
use Rattle.jl_builtins.specs.Calls.{numbers_sum}
use Rattle.jl_builtins.proofs.calls.numbers_sum.Given as goal

abbrev pub invariant-loop-number : goal.invariant-loop-number
invariant-loop-number l = numbers_sum l.total (drop l.number-index l.numbers) ≡ numbers_sum (pos 0) l.numbers
