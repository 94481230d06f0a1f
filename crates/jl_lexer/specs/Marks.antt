-- The signs that write operators and functions, and how tightly operators bind.
use Rattle.std.specs.Prelude.{ℕ, Bool, if◌then◌else◌, List, [], ◌∷◌, Option, Some, None, codes}
use Rattle.std.specs.Str.{bytes_eq}
use Rattle.jl_lexer.specs.declared.operators.Operator.{Operator}
use Rattle.jl_lexer.specs.declared.operators.Operator.TheVariants.{Or, And, Equal, Unequal, Less, AtMost, Greater, AtLeast, Plus, Minus, Times, Quotient, Remainder}
use Rattle.jl_lexer.specs.declared.operators.Prefix.{Prefix}
use Rattle.jl_lexer.specs.declared.operators.Prefix.TheVariants.{Not, Negative}
use Rattle.jl_lexer.specs.declared.operators.Function.{Function}
use Rattle.jl_lexer.specs.declared.operators.Function.TheVariants.{Len, Sum, Min, Max, Range, Array}

-- a sign of this one byte
abbrev pub is_mark : ℕ → List ℕ → Bool
is_mark m w = bytes_eq w (m ∷ [])

-- how an operator is written
abbrev pub operator_word : Operator → List ℕ
operator_word Or = codes "or"
operator_word And = codes "and"
operator_word Equal = codes "=="
operator_word Unequal = codes "!="
operator_word Less = 60 ∷ []
operator_word AtMost = codes "<="
operator_word Greater = 62 ∷ []
operator_word AtLeast = codes ">="
operator_word Plus = 43 ∷ []
operator_word Minus = 45 ∷ []
operator_word Times = 42 ∷ []
operator_word Quotient = codes "//"
operator_word Remainder = 37 ∷ []

abbrev pub prefix_word : Prefix → List ℕ
prefix_word Not = codes "not"
prefix_word Negative = 45 ∷ []

-- `if` and `else`
abbrev pub if_word : List ℕ
if_word = codes "if"

abbrev pub else_word : List ℕ
else_word = codes "else"

-- `for` and `in`
abbrev pub for_word : List ℕ
for_word = codes "for"

abbrev pub in_word : List ℕ
in_word = codes "in"

-- the operator among these that a sign writes
abbrev pub operator_among : List Operator → List ℕ → Option Operator
operator_among [] w = None
operator_among (o ∷ os) w = if bytes_eq w (operator_word o) then Some o else operator_among os w

-- the operator that a sign writes
abbrev pub operator_of : List ℕ → Option Operator
operator_of w = operator_among (Or ∷ And ∷ Equal ∷ Unequal ∷ Less ∷ AtMost ∷ Greater ∷ AtLeast ∷ Plus ∷ Minus ∷ Times ∷ Quotient ∷ Remainder ∷ []) w

abbrev pub prefix_of : List ℕ → Option Prefix
prefix_of w = if bytes_eq w (prefix_word Not) then Some Not else (if bytes_eq w (prefix_word Negative) then Some Negative else None)

-- how a function is written
abbrev pub function_word : Function → List ℕ
function_word Len = codes "len"
function_word Sum = codes "sum"
function_word Min = codes "min"
function_word Max = codes "max"
function_word Range = codes "range"
function_word Array = codes "array"

abbrev pub function_among : List Function → List ℕ → Option Function
function_among [] w = None
function_among (f ∷ fs) w = if bytes_eq w (function_word f) then Some f else function_among fs w

-- the function that a sign writes
abbrev pub function_of : List ℕ → Option Function
function_of w = function_among (Len ∷ Sum ∷ Min ∷ Max ∷ Range ∷ Array ∷ []) w

-- the level of an operation, from `or` on: the higher the level, the tighter the operator binds
abbrev pub own_level : Operator → ℕ
own_level Or = 1
own_level And = 2
own_level Equal = 4
own_level Unequal = 4
own_level Less = 4
own_level AtMost = 4
own_level Greater = 4
own_level AtLeast = 4
own_level Plus = 5
own_level Minus = 5
own_level Times = 6
own_level Quotient = 6
own_level Remainder = 6

-- the lowest level of the left operand: operators of one level bind from the left, but for comparisons, which do not chain
abbrev pub left_level : Operator → ℕ
left_level Or = 1
left_level And = 2
left_level Equal = 5
left_level Unequal = 5
left_level Less = 5
left_level AtMost = 5
left_level Greater = 5
left_level AtLeast = 5
left_level Plus = 5
left_level Minus = 5
left_level Times = 6
left_level Quotient = 6
left_level Remainder = 6

-- the level of `not` and of a minus before an operand, and the lowest one of the operand
abbrev pub prefix_level : Prefix → ℕ
prefix_level Not = 3
prefix_level Negative = 7
