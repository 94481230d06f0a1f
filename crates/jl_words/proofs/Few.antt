-- Nine digits spell no large number.
use Rattle.std.proofs.Common.{◌≡◌, ℕ, Bool, true, false, List, length, ◌<◌, ◌≤◌, Some, None, nat_lt, nat_le, cond, refl, arith}
use Rattle.std.specs.Prelude.{Option, if◌then◌else◌}
use Rattle.std.specs.Char.{is_ascii_digit}
use Rattle.std.specs.List.{list_all}
use Rattle.std.proofs.lemmas.Bool.{and_parts}
use Rattle.std.proofs.lemmas.Option.{same_Some}
use Rattle.jl_numbers.specs.Digits.{are_digits, decimal, at_most}
use Rattle.jl_numbers.proofs.DigitLemmas.{decimal-below, ten-le}
use Rattle.jl_quota.specs.Limits.{count_of}

below : (text : List ℕ) (n : ℕ) → length text ≤ 9 → are_digits text ≡ true → decimal text ≡ n → n < 1000000000
below text n few digits is =
    let own = decimal-below text (and_parts (nat_lt 0 (length text)) (list_all is_ascii_digit text) digits).1 in
    let grown = ten-le (length text) 9 few in
    omega arith

kept : (b : Bool) (most m n : ℕ) → (if b then Some m else None) ≡ Some n → m ≡ n
kept true most m n e = same_Some m n e
kept false most m n e = absurd (cc)

number_by : (b : Bool) (most n : ℕ) (text : List ℕ) → length text ≤ 9 → are_digits text ≡ b → (if b then at_most most (decimal text) else None) ≡ Some n → n < 1000000000
number_by true most n text few is e = below text n few is (kept (nat_le (decimal text) most) most (decimal text) n e)
number_by false most n text few is e = absurd (cc)

count_by : (b : Bool) (o : Option ℕ) (n : ℕ) → cond b o None ≡ Some n → o ≡ Some n
count_by true o n e = e
count_by false o n e = absurd (cc)

-- a count of nine digits at most is below a thousand million
pub few_are_small : (text : List ℕ) (n : ℕ) → length text ≤ 9 → count_of text ≡ Some n → n < 1000000000
few_are_small text n few e =
    let number = count_by (nat_le (length text) 20) _ n e in number_by (are_digits text) _ n text few refl number
