-- What the functions that every module has make of values.
use Rattle.std.specs.Prelude.{int_lt, ◌≡◌, ◌||◌, ◌&&◌, ℕ, zero, suc, nat_lt, Bool, true, false, not, if◌then◌else◌, ℤ, pos, negsuc, ◌+ℤ◌, List, [], ◌∷◌, ◌++◌, length, count_by, Option, Some, None, Result, Ok, Err}
use lib.IntN.{◌-ℤ◌}
use Rattle.jl_value.specs.Tree.{Tree, whole, text, list, table, numbers, Items, no_items, item, Members, no_members, member}
use Rattle.jl_value.specs.declared.library.TaskError.{TaskError}
use Rattle.jl_value.specs.declared.library.TaskError.TheVariants.{BadKind, BadIndex, Overflow}
use Rattle.jl_lexer.specs.declared.operators.Function.{Function}
use Rattle.jl_lexer.specs.declared.operators.Function.TheVariants.{Len, Sum, Min, Max, Range, Array}
use Rattle.jl_numbers.specs.Division.{within_64}
use Rattle.jl_builtins.specs.Arithmetic.{whole_within}
use Rattle.jl_builtins.specs.Operations.{items_length}

-- a byte that begins a character
abbrev pub begins_character : ℕ → Bool
begins_character b = nat_lt b 128 || not (nat_lt b 192)

-- how many members a table has
abbrev pub members_length : Members → ℕ
members_length no_members = 0
members_length (member k t ms) = suc (members_length ms)

-- characters of a text, and members
abbrev pub length_of : Tree → Result Tree TaskError
length_of (text s) = whole_within (pos (count_by begins_character s))
length_of (list ts) = whole_within (pos (items_length ts))
length_of (table ms) = whole_within (pos (members_length ms))
length_of (numbers zs) = whole_within (pos (length zs))
length_of _ = Err BadKind

-- the partial sums from the left have 64 bits
abbrev pub sum_behind : Option ℤ → (ℤ → Result Tree TaskError) → Result Tree TaskError
sum_behind None rest = Err Overflow
sum_behind (Some z) rest = rest z

-- the sum of an array, from one before on
abbrev pub numbers_sum : ℤ → List ℤ → Result Tree TaskError
numbers_sum n [] = Ok (whole n)
numbers_sum n (z ∷ zs) = sum_behind (within_64 (n +ℤ z)) (λ m. numbers_sum m zs)

-- goes on with a whole number
abbrev pub with_whole : Tree → (ℤ → Result Tree TaskError) → Result Tree TaskError
with_whole (whole z) rest = rest z
with_whole _ rest = Err BadKind

-- the sum of a list of whole numbers, from one before on
abbrev pub items_sum : ℤ → Items → Result Tree TaskError
items_sum n no_items = Ok (whole n)
items_sum n (item t ts) = with_whole t (λ z. sum_behind (within_64 (n +ℤ z)) (λ m. items_sum m ts))

-- `sum(a)`
abbrev pub sum_of_all : Tree → Result Tree TaskError
sum_of_all (list ts) = items_sum (pos 0) ts
sum_of_all (numbers zs) = numbers_sum (pos 0) zs
sum_of_all _ = Err BadKind

-- the better of two numbers: the smaller, or the larger
abbrev pub better : Bool → ℤ → ℤ → ℤ
better true best z = if int_lt z best then z else best
better false best z = if int_lt best z then z else best

-- the best of an array and one before
abbrev pub numbers_best : Bool → ℤ → List ℤ → Result Tree TaskError
numbers_best least best [] = Ok (whole best)
numbers_best least best (z ∷ zs) = numbers_best least (better least best z) zs

-- the best of a list of whole numbers and one before
abbrev pub items_best : Bool → ℤ → Items → Result Tree TaskError
items_best least best no_items = Ok (whole best)
items_best least best (item t ts) = with_whole t (λ z. items_best least (better least best z) ts)

-- the best of a list, which may not be empty
abbrev pub first_best : Bool → Items → Result Tree TaskError
first_best least no_items = Err BadIndex
first_best least (item t ts) = with_whole t (λ z. items_best least z ts)

-- the best of an array, which may not be empty
abbrev pub first_number : Bool → List ℤ → Result Tree TaskError
first_number least [] = Err BadIndex
first_number least (z ∷ zs) = numbers_best least z zs

-- `min(a)` and `max(a)`
abbrev pub best_of : Bool → Tree → Result Tree TaskError
best_of least (list ts) = first_best least ts
best_of least (numbers zs) = first_number least zs
best_of least _ = Err BadKind

-- whether each member of a list is a whole number
abbrev pub is_whole_tree : Tree → Bool
is_whole_tree (whole z) = true
is_whole_tree _ = false

abbrev pub are_whole : Items → Bool
are_whole no_items = true
are_whole (item t ts) = is_whole_tree t && are_whole ts

-- the numbers of a list, behind those before
abbrev pub array_behind : List ℤ → Items → Result Tree TaskError
array_behind zs no_items = Ok (numbers zs)
array_behind zs (item t ts) = with_whole t (λ z. array_behind (zs ++ z ∷ []) ts)

-- `array(a)`
abbrev pub array_of : Tree → Result Tree TaskError
array_of (list ts) = array_behind [] ts
array_of (numbers zs) = Ok (numbers zs)
array_of _ = Err BadKind

-- whole numbers from one on, so many
abbrev pub items_from : ℤ → ℕ → Items
items_from z zero = no_items
items_from z (suc n) = item (whole z) (items_from (z +ℤ pos 1) n)

-- a number of members, where it isn't negative
abbrev pub members_to : ℤ → ℕ
members_to (pos n) = n
members_to (negsuc n) = 0

-- the whole numbers from one to below another
abbrev pub range_of : Tree → Tree → Result Tree TaskError
range_of (whole a) (whole b) = Ok (list (items_from a (members_to (b -ℤ a))))
range_of _ _ = Err BadKind

-- a function of one member
abbrev pub call_value : Function → Tree → Result Tree TaskError
call_value Len v = length_of v
call_value Sum v = sum_of_all v
call_value Min v = best_of true v
call_value Max v = best_of false v
call_value Range v = range_of (whole (pos 0)) v
call_value Array v = array_of v

-- a whole number, or that there is none
abbrev pub IsNumber : Option ℤ → Tree → Type 0
IsNumber None t = (rest : ℤ → Result Tree TaskError) → with_whole t rest ≡ Err BadKind
IsNumber (Some z) t = t ≡ whole z
