-- What operators make of values.
use Rattle.std.specs.Prelude.{ℕ, zero, suc, ◌-◌, nat_lt, Bool, true, false, not, if◌then◌else◌, ℤ, pos, negsuc, ◌+ℤ◌, List, [], ◌∷◌, ◌++◌, length, Option, Some, None, Result, Ok, Err}
use lib.IntN.{◌-ℤ◌, ◌*ℤ◌, neg_ℤ}
use Rattle.std.specs.Str.{bytes_eq}
use Rattle.std.specs.Ordering.{int_cmp, nat_cmp}
use Rattle.std.specs.Cmp.Lexicographic.{slice_cmp}
use Rattle.std.specs.declared.cmp.Ordering.{Ordering}
use Rattle.std.specs.declared.cmp.Ordering.TheVariants.{Less as Below, Equal as Same, Greater as Above}
use Rattle.jl_value.specs.Tree.{Tree, truth, whole, text, list, table, numbers, Items, no_items, item, Members, no_members, member}
use Rattle.jl_value.specs.Same.{tree_eq}
use Rattle.jl_value.specs.declared.library.TaskError.{TaskError}
use Rattle.jl_value.specs.declared.library.TaskError.TheVariants.{BadKind, BadIndex}
use Rattle.jl_lexer.specs.declared.operators.Operator.{Operator}
use Rattle.jl_lexer.specs.declared.operators.Operator.TheVariants.{Or, And, Equal, Unequal, Less, AtMost, Greater, AtLeast, Plus, Minus, Times, Quotient, Remainder}
use Rattle.jl_lexer.specs.declared.operators.Prefix.{Prefix}
use Rattle.jl_lexer.specs.declared.operators.Prefix.TheVariants.{Not, Negative}
use Rattle.jl_builtins.specs.declared.left_side.Settled.{Settled}
use Rattle.jl_builtins.specs.declared.left_side.Settled.TheVariants.{Known, Open, Wrong, Both}
use Rattle.jl_numbers.specs.Division.{floor_quotient, floor_rest}
use Rattle.jl_builtins.specs.Arithmetic.{whole_within, divided}

-- the members of two lists
abbrev pub both_items : Items → Items → Items
both_items no_items us = us
both_items (item t ts) us = item t (both_items ts us)

-- `+`
abbrev pub sum_of : Tree → Tree → Result Tree TaskError
sum_of (whole a) (whole b) = whole_within (a +ℤ b)
sum_of (text a) (text b) = Ok (text (a ++ b))
sum_of (list a) (list b) = Ok (list (both_items a b))
sum_of (numbers a) (numbers b) = Ok (numbers (a ++ b))
sum_of _ _ = Err BadKind

-- how two whole numbers, or two texts in byte order, compare
abbrev pub compared : Tree → Tree → Option Ordering
compared (whole a) (whole b) = Some (int_cmp a b)
compared (text a) (text b) = Some (slice_cmp nat_cmp a b)
compared _ _ = None

-- whether an order is one of those that are asked for
abbrev pub holds : Bool → Bool → Bool → Ordering → Bool
holds below same above Below = below
holds below same above Same = same
holds below same above Above = above

-- the truth of an order, where there is one
abbrev pub tested : (Ordering → Bool) → Option Ordering → Result Tree TaskError
tested test None = Err BadKind
tested test (Some o) = Ok (truth (test o))

-- whole numbers alone
abbrev pub on_wholes : (ℤ → ℤ → Result Tree TaskError) → Tree → Tree → Result Tree TaskError
on_wholes f (whole a) (whole b) = f a b
on_wholes f _ _ = Err BadKind

-- an operator of whole numbers alone
abbrev pub is_arithmetic : Operator → Bool
is_arithmetic Or = false
is_arithmetic And = false
is_arithmetic Equal = false
is_arithmetic Unequal = false
is_arithmetic Less = false
is_arithmetic AtMost = false
is_arithmetic Greater = false
is_arithmetic AtLeast = false
is_arithmetic Plus = false
is_arithmetic Minus = true
is_arithmetic Times = true
is_arithmetic Quotient = true
is_arithmetic Remainder = true

-- the operator that joins
abbrev pub is_plus : Operator → Bool
is_plus Plus = true
is_plus _ = false

-- an operator but `+`, where a side is a list: by whether both are the same
abbrev pub on_lists : Operator → Bool → Result Tree TaskError
on_lists Equal same = Ok (truth same)
on_lists Unequal same = Ok (truth (not same))
on_lists _ same = Err BadKind

-- an operator, where both sides have values
abbrev pub operation : Operator → Tree → Tree → Result Tree TaskError
operation Or v w = Err BadKind
operation And v w = Err BadKind
operation Equal v w = Ok (truth (tree_eq v w))
operation Unequal v w = Ok (truth (not (tree_eq v w)))
operation Less v w = tested (holds true false false) (compared v w)
operation AtMost v w = tested (holds true true false) (compared v w)
operation Greater v w = tested (holds false false true) (compared v w)
operation AtLeast v w = tested (holds false true true) (compared v w)
operation Plus v w = sum_of v w
operation Minus v w = on_wholes (λ a b. whole_within (a -ℤ b)) v w
operation Times v w = on_wholes (λ a b. whole_within (a *ℤ b)) v w
operation Quotient v w = on_wholes (divided floor_quotient) v w
operation Remainder v w = on_wholes (divided floor_rest) v w

-- `not` and a minus before a value
abbrev pub prefixed : Prefix → Tree → Result Tree TaskError
prefixed Not (truth b) = Ok (truth (not b))
prefixed Negative (whole z) = whole_within (neg_ℤ z)
prefixed _ _ = Err BadKind

-- a place in a list of this length, from 0, or from the end where it is negative
abbrev pub place_of : ℕ → ℤ → Option ℕ
place_of n (pos i) = if nat_lt i n then Some i else None
place_of n (negsuc i) = if nat_lt i n then Some (n - suc i) else None

-- how many members a list has
abbrev pub items_length : Items → ℕ
items_length no_items = 0
items_length (item t ts) = suc (items_length ts)

-- the member of a list at a place from 0
abbrev pub item_at : Items → ℕ → Result Tree TaskError
item_at no_items n = Err BadIndex
item_at (item t ts) zero = Ok t
item_at (item t ts) (suc n) = item_at ts n

-- the number of an array at a place from 0
abbrev pub number_at : List ℤ → ℕ → Result Tree TaskError
number_at [] n = Err BadIndex
number_at (z ∷ zs) zero = Ok (whole z)
number_at (z ∷ zs) (suc n) = number_at zs n

-- the member of a table at a key
abbrev pub member_of : List ℕ → Members → Result Tree TaskError
member_of k no_members = Err BadIndex
member_of k (member l t ms) = if bytes_eq k l then Ok t else member_of k ms

-- what stands at a place, where there is one
abbrev pub at_place : (ℕ → Result Tree TaskError) → Option ℕ → Result Tree TaskError
at_place f None = Err BadIndex
at_place f (Some n) = f n

-- `a[i]`
abbrev pub element_of : Tree → Tree → Result Tree TaskError
element_of (list ts) (whole z) = at_place (item_at ts) (place_of (items_length ts) z)
element_of (numbers zs) (whole z) = at_place (number_at zs) (place_of (length zs) z)
element_of (table ms) (text k) = member_of k ms
element_of _ _ = Err BadKind

-- what the left side of an operator tells: the value, that the right side decides, that it is no truth, or that both sides are needed
abbrev pub settle : Operator → Tree → Settled
settle Or (truth true) = Known true
settle Or (truth false) = Open
settle Or _ = Wrong
settle And (truth true) = Open
settle And (truth false) = Known false
settle And _ = Wrong
settle _ _ = Both

-- the whole number that an operation comes to, where it comes to one
abbrev pub number_made : Result Tree TaskError → Option ℤ
number_made (Ok (whole z)) = Some z
number_made _ = None
