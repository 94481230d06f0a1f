-- Division rounds down.
use Rattle.std.proofs.Common.{◌≡◌, ◌≢◌, ℕ, zero, suc, ◌+◌, ◌*◌, ◌/◌, ◌%◌, ◌<◌, refl, arith}
use Rattle.std.specs.Prelude.{ℤ, pos, negsuc, ◌+ℤ◌}
use Rattle.std.proofs.lemmas.Int.{ints}
use lib.IntN.{◌*ℤ◌, neg_ℤ}
use Rattle.jl_numbers.specs.Division.{rounded_down, rest_above, IsLeftOver, RoundsDown}

-- a positive dividend over a negative divisor
over_negative : (a b q r : ℕ) → a ≡ suc b * q + r → r < suc b → (pos a ≡ (negsuc b *ℤ rounded_down q r) +ℤ neg_ℤ (pos (rest_above (suc b) r))) × IsLeftOver (negsuc b) (neg_ℤ (pos (rest_above (suc b) r)))
over_negative a b zero zero e h = (omega (arith, ints), (omega (arith, ints), omega (arith, ints)))
over_negative a b (suc q) zero e h = (omega (arith, ints), (omega (arith, ints), omega (arith, ints)))
over_negative a b q (suc r) e h = (omega (arith, ints), (omega (arith, ints), omega (arith, ints)))

-- a negative dividend over a positive divisor
under_positive : (a b q r : ℕ) → suc a ≡ suc b * q + r → r < suc b → (negsuc a ≡ (pos (suc b) *ℤ rounded_down q r) +ℤ pos (rest_above (suc b) r)) × IsLeftOver (pos (suc b)) (pos (rest_above (suc b) r))
under_positive a b zero zero e h = (omega (arith, ints), (omega (arith, ints), omega (arith, ints)))
under_positive a b (suc q) zero e h = (omega (arith, ints), (omega (arith, ints), omega (arith, ints)))
under_positive a b q (suc r) e h = (omega (arith, ints), (omega (arith, ints), omega (arith, ints)))

pub rounds_down : (x y : ℤ) → y ≢ pos 0 → RoundsDown x y
rounds_down (pos a) (pos zero) h = absurd (h refl)
rounds_down (negsuc a) (pos zero) h = absurd (h refl)
rounds_down (pos a) (pos (suc b)) h = record { makes = omega (arith, ints); left_over = (omega (arith, ints), omega (arith, ints)) }
rounds_down (pos a) (negsuc b) h =
    let both = over_negative a b (a / suc b) (a % suc b) (omega arith) (omega arith) in record { makes = both.0; left_over = both.1 }
rounds_down (negsuc a) (pos (suc b)) h =
    let both = under_positive a b (suc a / suc b) (suc a % suc b) (omega arith) (omega arith) in record { makes = both.0; left_over = both.1 }
rounds_down (negsuc a) (negsuc b) h = record { makes = omega (arith, ints); left_over = (omega (arith, ints), omega (arith, ints)) }
