use Rattle.std.proofs.Common.{◌≡◌, ◌<◌, ◌^◌, fold, drop}
use Rattle.jl_numbers.specs.Digits.{longer, decimal}
use Rattle.jl_numbers.proofs.digits.decimal.Given as goal

abbrev pub invariant-loop-digit : goal.invariant-loop-digit
invariant-loop-digit l = (l.value < 2 ^ 64) × (fold longer l.value (drop l.digit-index l.digits) ≡ decimal l.digits)
