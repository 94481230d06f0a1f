use Rattle.std.proofs.Common.{◌≡◌, drop}
use Rattle.jl_builtins.specs.Calls.{numbers_best}
use Rattle.jl_builtins.proofs.calls.best_number.Given as goal

abbrev pub invariant-loop-number : goal.invariant-loop-number
invariant-loop-number l = numbers_best l.least l.best (drop l.number-index l.numbers) ≡ numbers_best l.least l.first l.numbers
