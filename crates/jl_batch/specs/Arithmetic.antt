-- The operators of an expression, in signed 64 bits.
use Rattle.std.specs.Prelude.{ℤ, ◌+ℤ◌, Bool, true, false, Option}
use lib.IntN.{◌-ℤ◌, ◌*ℤ◌}
use Rattle.jl_numbers.specs.Division.{within_64, divided, floor_quotient, floor_rest}
use Rattle.jl_batch.specs.declared.arithmetic.Operator.{Operator}
use Rattle.jl_batch.specs.declared.arithmetic.Operator.TheVariants.{Plus, Minus, Times, Over, Modulo}

-- an operator's value
abbrev pub operation_value : Operator → ℤ → ℤ → Option ℤ
operation_value Plus x y = within_64 (x +ℤ y)
operation_value Minus x y = within_64 (x -ℤ y)
operation_value Times x y = within_64 (x *ℤ y)
operation_value Over x y = divided floor_quotient x y
operation_value Modulo x y = divided floor_rest x y

-- whether an operator binds before `+` and `-`
abbrev pub is_tight : Operator → Bool
is_tight Plus = false
is_tight Minus = false
is_tight Times = true
is_tight Over = true
is_tight Modulo = true
