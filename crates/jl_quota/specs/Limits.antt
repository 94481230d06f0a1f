-- The texts that set limits.
use Rattle.std.specs.Prelude.{ℕ, ◌-◌, ◌*◌, ◌^◌, ◌==◌, List, nat_le, cond, Option, Some, None, length, take, slice_index_or}
use Rattle.std.specs.Option.{option_and_then}
use Rattle.jl_numbers.specs.Digits.{number_of, at_most}
use Rattle.jl_quota.specs.declared.limits.TheConstants.{MOST_DIGITS, MOST_SECONDS, MICROSECONDS}

-- a count: 1 to 20 digits, within 64 bits
abbrev pub count_of : List ℕ → Option ℕ
count_of text = cond (nat_le (length text) MOST_DIGITS) (number_of (2 ^ 64 - 1) text) None

-- what a last byte `K`, `M` or `G` stands for; any other is none of these
abbrev pub unit_of : ℕ → ℕ
unit_of b = cond (b == 75) 1024 (cond (b == 77) 1048576 (cond (b == 71) 1073741824 1))

-- so many units, within 64 bits
abbrev pub scaled : List ℕ → ℕ → Option ℕ
scaled digits unit = option_and_then (λ n. at_most (2 ^ 64 - 1) (n * unit)) (count_of digits)

-- the last byte, or 0 where there is none
abbrev pub last_byte : List ℕ → ℕ
last_byte text = slice_index_or text (length text - 1) 0

-- a size: a count of bytes, or a count and a last byte that is a unit
abbrev pub size_of : List ℕ → Option ℕ
size_of text = cond (unit_of (last_byte text) == 1) (count_of text) (scaled (take (length text - 1) text) (unit_of (last_byte text)))

-- an age: a count of seconds up to 10^12, in microseconds
abbrev pub age_of : List ℕ → Option ℕ
age_of text = option_and_then (λ n. cond (nat_le n MOST_SECONDS) (Some (n * MICROSECONDS)) None) (count_of text)
