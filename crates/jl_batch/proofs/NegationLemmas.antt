-- Minus lexemes, one after the other.
use Rattle.std.proofs.Common.{◌≡◌, ℕ, zero, suc, ◌-◌, ◌<◌, arith, sub-one}
use Rattle.std.specs.Prelude.{ℤ, option_and_then}
use lib.IntN.{neg_ℤ}
use Rattle.jl_numbers.specs.Division.{within_64}
use Rattle.jl_batch.specs.Expressions.{negated}

pub negated-next : (n : ℕ) (x : ℤ) → 0 < n → negated n x ≡ option_and_then (negated (n - 1)) (within_64 (neg_ℤ x))
negated-next zero x h = absurd (omega arith)
negated-next (suc n) x h = rw sub-one

-- for `grind`
pub ruleset minus_laws = (negated-next)
