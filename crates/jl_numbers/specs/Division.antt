-- Division in signed 64 bits, which rounds down.
use Rattle.std.specs.Prelude.{◌≡◌, ◌≤ℤ◌, ◌<ℤ◌, ℕ, zero, suc, ◌-◌, ◌/◌, ◌%◌, ◌^◌, nat_lt, nat_eq, unsigned_abs, ℤ, pos, negsuc, ◌+ℤ◌, Bool, Option, Some, None, if◌then◌else◌}
use lib.IntN.{◌*ℤ◌, neg_ℤ}

-- whether a number is one of 64 bits
abbrev pub is_64 : ℤ → Bool
is_64 (pos n) = nat_lt n (2 ^ 63)
is_64 (negsuc n) = nat_lt n (2 ^ 63)

-- a number that has no value outside 64 bits
abbrev pub within_64 : ℤ → Option ℤ
within_64 z = if is_64 z then Some z else None

-- minus q, or one less where something is left over
abbrev pub rounded_down : ℕ → ℕ → ℤ
rounded_down q zero = neg_ℤ (pos q)
rounded_down q (suc r) = negsuc q

-- the quotient, rounded down
abbrev pub floor_quotient : ℤ → ℤ → ℤ
floor_quotient (pos a) (pos b) = pos (a / b)
floor_quotient (pos a) (negsuc b) = rounded_down (a / suc b) (a % suc b)
floor_quotient (negsuc a) (pos b) = rounded_down (suc a / b) (suc a % b)
floor_quotient (negsuc a) (negsuc b) = pos (suc a / suc b)

-- what a multiple of b above leaves, where r is what one below leaves
abbrev pub rest_above : ℕ → ℕ → ℕ
rest_above b zero = 0
rest_above b (suc r) = b - suc r

-- what the quotient leaves, which has the divisor's sign
abbrev pub floor_rest : ℤ → ℤ → ℤ
floor_rest (pos a) (pos b) = pos (a % b)
floor_rest (pos a) (negsuc b) = neg_ℤ (pos (rest_above (suc b) (a % suc b)))
floor_rest (negsuc a) (pos b) = pos (rest_above b (suc a % b))
floor_rest (negsuc a) (negsuc b) = neg_ℤ (pos (suc a % suc b))

-- a division has no value at a divisor 0, nor where it leaves 64 bits
abbrev pub divided : (ℤ → ℤ → ℤ) → ℤ → ℤ → Option ℤ
divided by x y = if nat_eq (unsigned_abs y) 0 then None else within_64 (by x y)

-- whether what is left over has the divisor's sign and is nearer to 0 than the divisor
abbrev pub IsLeftOver : ℤ → ℤ → Type 0
IsLeftOver (pos b) r = (pos 0 ≤ℤ r) × (r <ℤ pos b)
IsLeftOver (negsuc b) r = (negsuc b <ℤ r) × (r ≤ℤ pos 0)

-- division that rounds down: the divisor times the quotient and the rest make the dividend
pub record RoundsDown (x y : ℤ) : Type 0 where
  pub makes : x ≡ (y *ℤ floor_quotient x y) +ℤ floor_rest x y
  pub left_over : IsLeftOver y (floor_rest x y)
