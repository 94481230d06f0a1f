-- Whole numbers of 64 bits as values.
use Rattle.std.specs.Prelude.{ℤ, nat_eq, unsigned_abs, if◌then◌else◌, Option, Some, None, Result, Ok, Err}
use Rattle.jl_value.specs.Tree.{Tree, whole}
use Rattle.jl_value.specs.declared.library.TaskError.{TaskError}
use Rattle.jl_value.specs.declared.library.TaskError.TheVariants.{Overflow, ZeroDivisor}
use Rattle.jl_numbers.specs.Division.{within_64}

-- a number that may be outside 64 bits
abbrev pub whole_if : Option ℤ → Result Tree TaskError
whole_if None = Err Overflow
whole_if (Some z) = Ok (whole z)

-- a whole number, which may not be outside 64 bits
abbrev pub whole_within : ℤ → Result Tree TaskError
whole_within z = whole_if (within_64 z)

-- a division has no value at a divisor 0
abbrev pub divided : (ℤ → ℤ → ℤ) → ℤ → ℤ → Result Tree TaskError
divided by x y = if nat_eq (unsigned_abs y) 0 then Err ZeroDivisor else whole_within (by x y)
