-- Decimal digits and the numbers that they write.
use Rattle.std.specs.Prelude.{ℕ, ◌+◌, ◌-◌, ◌*◌, List, Bool, ◌&&◌, nat_lt, nat_le, Option, Some, None, length, fold, if◌then◌else◌}
use Rattle.std.specs.List.{list_all}
use Rattle.std.specs.Char.{is_ascii_digit}

-- one or more digits
abbrev pub are_digits : List ℕ → Bool
are_digits text = nat_lt 0 (length text) && list_all is_ascii_digit text

-- a number with one digit more
abbrev pub longer : ℕ → ℕ → ℕ
longer n digit = n * 10 + (digit - 48)

-- the number that digits write
abbrev pub decimal : List ℕ → ℕ
decimal digits = fold longer 0 digits

-- a number that is not too large
abbrev pub at_most : ℕ → ℕ → Option ℕ
at_most most n = if nat_le n most then Some n else None

-- the number that one or more digits write, unless it is too large
abbrev pub number_of : ℕ → List ℕ → Option ℕ
number_of most text = if are_digits text then at_most most (decimal text) else None
