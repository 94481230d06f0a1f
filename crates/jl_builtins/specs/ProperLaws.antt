-- What operators, functions and lists make of proper values is proper.
-- Machinery: nothing here need be believed.
use Rattle.std.specs.Prelude.{int_lt, ◌≡◌, ◌<◌, ◌≤ℤ◌, ℕ, zero, suc, ◌+◌, ◌-◌, ◌^◌, Bool, true, false, nat_lt, nat_eq, if◌then◌else◌, unsigned_abs, ℤ, pos, negsuc, ◌+ℤ◌, List, [], ◌∷◌, ◌++◌, length, count_by, Option, Some, None, Result, Ok, Err, refl}
use lib.IntN.{◌-ℤ◌, ◌*ℤ◌, neg_ℤ}
use Rattle.std.proofs.Common.{arith, subst, lit<}
use Rattle.std.proofs.lemmas.Int.{ints}
use Rattle.std.specs.Str.{bytes_eq}
use Rattle.std.specs.declared.cmp.Ordering.{Ordering}
use Rattle.std.proofs.lemmas.Str.{IsUtf8-append}
use Rattle.jl_text.specs.declared.limits.TheConstants.{MOST_STEPS}
use Rattle.jl_value.specs.Tree.{Tree, truth, whole, text, list, table, numbers, Items, no_items, item, Members, no_members, member, items_of, list_of}
use Rattle.jl_value.specs.Proper.{FitsI64, AllFitI64, IsProper, AreProper, HasProper}
use Rattle.jl_value.specs.declared.library.TaskError.{TaskError}
use Rattle.jl_value.specs.declared.library.TaskError.TheVariants.{ZeroDivisor, TooLong}
use Rattle.jl_lexer.specs.declared.operators.Operator.{Operator}
use Rattle.jl_lexer.specs.declared.operators.Operator.TheVariants.{Or, And, Equal, Unequal, Less, AtMost, Greater, AtLeast, Plus, Minus, Times, Quotient, Remainder}
use Rattle.jl_lexer.specs.declared.operators.Prefix.{Prefix}
use Rattle.jl_lexer.specs.declared.operators.Prefix.TheVariants.{Not, Negative}
use Rattle.jl_lexer.specs.declared.operators.Function.{Function}
use Rattle.jl_lexer.specs.declared.operators.Function.TheVariants.{Len, Sum, Min, Max, Range, Array}
use Rattle.jl_operands.specs.Steps.{Evaluated, done, failed, then', counted, operated, weight}
use Rattle.jl_numbers.specs.Division.{is_64, within_64, floor_quotient, floor_rest}
use Rattle.jl_builtins.specs.Arithmetic.{whole_if, whole_within, divided}
use Rattle.jl_builtins.specs.Operations.{both_items, sum_of, compared, holds, tested, on_wholes, operation, prefixed, place_of, items_length, item_at, number_at, member_of, at_place, element_of}
use Rattle.jl_builtins.specs.Calls.{begins_character, members_length, length_of, sum_behind, numbers_sum, with_whole, items_sum, sum_of_all, better, numbers_best, items_best, best_of, array_behind, array_of, items_from, members_to, range_of, call_value}
use Rattle.jl_operands.specs.Lists.{wholes, source_of, each_over, picked, filtered_over, over}

-- ---- values are proper

abbrev pub IsProperRan : Evaluated → Type 0
IsProperRan (done v n) = IsProper v
IsProperRan (failed e) = Unit {0}

abbrev pub IsProperResult : Result Tree TaskError → Type 0
IsProperResult (Ok v) = IsProper v
IsProperResult (Err e) = Unit {0}

counted_if : (b : Bool) (v : Tree) (n : ℕ) → IsProper v → IsProperRan (if b then failed TooLong else done v n)
counted_if true v n h = tt
counted_if false v n h = h

pub counted_proper : (n : ℕ) (v : Tree) → IsProper v → IsProperRan (counted n v)
counted_proper n v h = counted_if (nat_lt MOST_STEPS (n + weight v)) v (n + weight v) h

pub then_proper : (r : Evaluated) (f : Tree → ℕ → Evaluated) → IsProperRan r → ((v : Tree) (n : ℕ) → IsProper v → IsProperRan (f v n)) → IsProperRan (then' r f)
then_proper (done v n) f h p = p v n h
then_proper (failed e) f h p = tt

pub operated_proper : (n : ℕ) (r : Result Tree TaskError) → IsProperResult r → IsProperRan (operated n r)
operated_proper n (Ok v) h = counted_proper n v h
operated_proper n (Err e) h = tt

whole_by : (z : ℤ) → is_64 z ≡ true → FitsI64 z
whole_by (pos n) h = grind arith
whole_by (negsuc n) h = grind arith

whole_if_proper : (b : Bool) (z : ℤ) → (b ≡ true → FitsI64 z) → IsProperResult (whole_if (if b then Some z else None))
whole_if_proper true z h = h refl
whole_if_proper false z h = tt

within_made : (z : ℤ) → IsProperResult (whole_within z)
within_made z = whole_if_proper (is_64 z) z (whole_by z)

made_if : (b : Bool) (e : TaskError) (r : Result Tree TaskError) → IsProperResult r → IsProperResult (if b then Err e else r)
made_if true e r h = tt
made_if false e r h = h

divided_made : (f : ℤ → ℤ → ℤ) (a b : ℤ) → IsProperResult (divided f a b)
divided_made f a b = made_if (nat_eq (unsigned_abs b) 0) ZeroDivisor (whole_within (f a b)) (within_made (f a b))

items_proper : (a b : Items) → AreProper a → AreProper b → AreProper (both_items a b)
items_proper no_items b h k = k
items_proper (item t ts) b h k = (h.0, items_proper ts b h.1 k)

numbers_proper : (a b : List ℤ) → AllFitI64 a → AllFitI64 b → AllFitI64 (a ++ b)
numbers_proper [] b h k = k
numbers_proper (z ∷ zs) b h k = (h.0, numbers_proper zs b h.1 k)

sum_proper : (a b : Tree) → IsProper a → IsProper b → IsProperResult (sum_of a b)
sum_proper (whole a) (whole b) h k = within_made (a +ℤ b)
sum_proper (text a) (text b) h k = IsUtf8-append a b h k
sum_proper (list a) (list b) h k = items_proper a b h k
sum_proper (numbers a) (numbers b) h k = numbers_proper a b h k
sum_proper _ _ h k = tt

tested_made : (f : Ordering → Bool) (o : Option Ordering) → IsProperResult (tested f o)
tested_made f None = tt
tested_made f (Some o) = tt

wholes_made : (f : ℤ → ℤ → Result Tree TaskError) (v w : Tree) → ((a b : ℤ) → IsProperResult (f a b)) → IsProperResult (on_wholes f v w)
wholes_made f (whole a) (whole b) h = h a b
wholes_made f _ _ h = tt

pub operation_proper : (o : Operator) (v w : Tree) → IsProper v → IsProper w → IsProperResult (operation o v w)
operation_proper Or v w h k = tt
operation_proper And v w h k = tt
operation_proper Equal v w h k = tt
operation_proper Unequal v w h k = tt
operation_proper Less v w h k = tested_made (holds true false false) (compared v w)
operation_proper AtMost v w h k = tested_made (holds true true false) (compared v w)
operation_proper Greater v w h k = tested_made (holds false false true) (compared v w)
operation_proper AtLeast v w h k = tested_made (holds false true true) (compared v w)
operation_proper Plus v w h k = sum_proper v w h k
operation_proper Minus v w h k = wholes_made (λ a b. whole_within (a -ℤ b)) v w (λ a b. within_made (a -ℤ b))
operation_proper Times v w h k = wholes_made (λ a b. whole_within (a *ℤ b)) v w (λ a b. within_made (a *ℤ b))
operation_proper Quotient v w h k = wholes_made (divided floor_quotient) v w (divided_made floor_quotient)
operation_proper Remainder v w h k = wholes_made (divided floor_rest) v w (divided_made floor_rest)

pub prefixed_proper : (p : Prefix) (v : Tree) → IsProperResult (prefixed p v)
prefixed_proper Not (truth b) = tt
prefixed_proper Negative (whole z) = within_made (neg_ℤ z)
prefixed_proper _ _ = tt

item_proper : (ts : Items) (n : ℕ) → AreProper ts → IsProperResult (item_at ts n)
item_proper no_items n h = tt
item_proper (item t ts) zero h = h.0
item_proper (item t ts) (suc n) h = item_proper ts n h.1

number_proper : (zs : List ℤ) (n : ℕ) → AllFitI64 zs → IsProperResult (number_at zs n)
number_proper [] n h = tt
number_proper (z ∷ zs) zero h = h.0
number_proper (z ∷ zs) (suc n) h = number_proper zs n h.1

found_made : (b : Bool) (v : Tree) (r : Result Tree TaskError) → IsProper v → IsProperResult r → IsProperResult (if b then Ok v else r)
found_made true v r h k = h
found_made false v r h k = k

member_proper : (k : List ℕ) (ms : Members) → HasProper ms → IsProperResult (member_of k ms)
member_proper k no_members h = tt
member_proper k (member l t ms) h = found_made (bytes_eq k l) t (member_of k ms) h.1 (member_proper k ms h.2)

place_made : (f : ℕ → Result Tree TaskError) (o : Option ℕ) → ((n : ℕ) → IsProperResult (f n)) → IsProperResult (at_place f o)
place_made f None h = tt
place_made f (Some n) h = h n

pub element_proper : (v w : Tree) → IsProper v → IsProperResult (element_of v w)
element_proper (list ts) (whole z) h = place_made (item_at ts) (place_of (items_length ts) z) (λ n. item_proper ts n h)
element_proper (numbers zs) (whole z) h = place_made (number_at zs) (place_of (length zs) z) (λ n. number_proper zs n h)
element_proper (table ms) (text k) h = member_proper k ms h.1
element_proper _ _ h = tt

-- ---- what functions make is proper

behind_made : (o : Option ℤ) (rest : ℤ → Result Tree TaskError) → ((z : ℤ) → o ≡ Some z → IsProperResult (rest z)) → IsProperResult (sum_behind o rest)
behind_made None rest h = tt
behind_made (Some z) rest h = h z refl

within_is : (b : Bool) (z y : ℤ) → (b ≡ true → FitsI64 z) → (if b then Some z else None) ≡ Some y → FitsI64 y
within_is true z y h e = let same : z ≡ y = cc in subst FitsI64 same (h refl)
within_is false z y h e = absurd (cc)

whole_in : (z y : ℤ) → within_64 z ≡ Some y → FitsI64 y
whole_in z y e = within_is (is_64 z) z y (whole_by z) e

numbers_sum_made : (n : ℤ) (zs : List ℤ) → FitsI64 n → IsProperResult (numbers_sum n zs)
numbers_sum_made n [] h = h
numbers_sum_made n (z ∷ zs) h = behind_made (within_64 (n +ℤ z)) _ (λ m e. numbers_sum_made m zs (whole_in (n +ℤ z) m e))

whole_made : (t : Tree) (rest : ℤ → Result Tree TaskError) → IsProper t → ((z : ℤ) → FitsI64 z → IsProperResult (rest z)) → IsProperResult (with_whole t rest)
whole_made (whole z) rest h k = k z h
whole_made _ rest h k = tt

items_sum_made : (n : ℤ) (ts : Items) → FitsI64 n → AreProper ts → IsProperResult (items_sum n ts)
items_sum_made n no_items h k = h
items_sum_made n (item t ts) h k = whole_made t _ k.0 (λ z w. behind_made (within_64 (n +ℤ z)) _ (λ m e. items_sum_made m ts (whole_in (n +ℤ z) m e) k.1))

better_if : (b : Bool) (x y : ℤ) → FitsI64 x → FitsI64 y → FitsI64 (if b then x else y)
better_if true x y h k = h
better_if false x y h k = k

better_whole : (least : Bool) (x y : ℤ) → FitsI64 x → FitsI64 y → FitsI64 (better least x y)
better_whole true x y h k = better_if (int_lt y x) y x k h
better_whole false x y h k = better_if (int_lt x y) y x k h

numbers_best_made : (least : Bool) (n : ℤ) (zs : List ℤ) → FitsI64 n → AllFitI64 zs → IsProperResult (numbers_best least n zs)
numbers_best_made least n [] h k = h
numbers_best_made least n (z ∷ zs) h k = numbers_best_made least (better least n z) zs (better_whole least n z h k.0) k.1

items_best_made : (least : Bool) (n : ℤ) (ts : Items) → FitsI64 n → AreProper ts → IsProperResult (items_best least n ts)
items_best_made least n no_items h k = h
items_best_made least n (item t ts) h k = whole_made t _ k.0 (λ z w. items_best_made least (better least n z) ts (better_whole least n z h w) k.1)

best_made : (least : Bool) (v : Tree) → IsProper v → IsProperResult (best_of least v)
best_made least (list no_items) h = tt
best_made least (list (item t ts)) h = whole_made t _ h.0 (λ z w. items_best_made least z ts w h.1)
best_made least (numbers []) h = tt
best_made least (numbers (z ∷ zs)) h = numbers_best_made least z zs h.0 h.1
best_made least _ h = tt

array_made : (zs : List ℤ) (ts : Items) → AllFitI64 zs → AreProper ts → IsProperResult (array_behind zs ts)
array_made zs no_items h k = h
array_made zs (item t ts) h k = whole_made t _ k.0 (λ z w. array_made (zs ++ z ∷ []) ts (numbers_proper zs (z ∷ []) h (w, tt)) k.1)

pub whole_bounds : (z : ℤ) → FitsI64 z → (negsuc (2 ^ 63 - 1) ≤ℤ z) × (z ≤ℤ pos (2 ^ 63 - 1))
whole_bounds (pos n) h = (omega (arith, ints), omega (arith, ints))
whole_bounds (negsuc n) h = (omega (arith, ints), omega (arith, ints))

whole_from : (z : ℤ) → negsuc (2 ^ 63 - 1) ≤ℤ z → z ≤ℤ pos (2 ^ 63 - 1) → FitsI64 z
whole_from (pos n) h k = omega (arith, ints)
whole_from (negsuc n) h k = omega (arith, ints)

step_whole : (z : ℤ) (n : ℕ) → FitsI64 z → (z +ℤ pos (suc n)) ≤ℤ pos (2 ^ 63) → (0 < n → FitsI64 (z +ℤ pos 1)) × (((z +ℤ pos 1) +ℤ pos n) ≤ℤ pos (2 ^ 63))
step_whole z n h k = let b = whole_bounds z h in (λ some. whole_from (z +ℤ pos 1) (omega (arith, ints)) (omega (arith, ints)), omega (arith, ints))

from_proper : (z : ℤ) (n : ℕ) → (0 < n → FitsI64 z) → (z +ℤ pos n) ≤ℤ pos (2 ^ 63) → AreProper (items_from z n)
from_proper z zero h k = tt
from_proper z (suc n) h k = let here = h (omega arith) in let next = step_whole z n here k in (here, from_proper (z +ℤ pos 1) n next.0 next.1)

range_end_by : (a b d : ℤ) → (b -ℤ a) ≡ d → FitsI64 a → FitsI64 b → (a +ℤ pos (members_to d)) ≤ℤ pos (2 ^ 63)
range_end_by a b (pos n) e h k = let x = whole_bounds b k in omega (arith, ints)
range_end_by a b (negsuc n) e h k = let x = whole_bounds a h in omega (arith, ints)

range_end : (a b : ℤ) → FitsI64 a → FitsI64 b → (a +ℤ pos (members_to (b -ℤ a))) ≤ℤ pos (2 ^ 63)
range_end a b h k = range_end_by a b (b -ℤ a) refl h k

pub range_proper : (v w : Tree) → IsProper v → IsProper w → IsProperResult (range_of v w)
range_proper (whole a) (whole b) h k = from_proper a (members_to (b -ℤ a)) (λ some. h) (range_end a b h k)
range_proper _ _ h k = tt

length_made : (v : Tree) → IsProperResult (length_of v)
length_made (text s) = within_made (pos (count_by begins_character s))
length_made (list ts) = within_made (pos (items_length ts))
length_made (table ms) = within_made (pos (members_length ms))
length_made (numbers zs) = within_made (pos (length zs))
length_made _ = tt

sum_made : (v : Tree) → IsProper v → IsProperResult (sum_of_all v)
sum_made (list ts) h = items_sum_made (pos 0) ts (lit< tt) h
sum_made (numbers zs) h = numbers_sum_made (pos 0) zs (lit< tt)
sum_made _ h = tt

array_of_made : (v : Tree) → IsProper v → IsProperResult (array_of v)
array_of_made (list ts) h = array_made [] ts tt h
array_of_made (numbers zs) h = h
array_of_made _ h = tt

pub call_proper : (f : Function) (v : Tree) → IsProper v → IsProperResult (call_value f v)
call_proper Len v h = length_made v
call_proper Sum v h = sum_made v h
call_proper Min v h = best_made true v h
call_proper Max v h = best_made false v h
call_proper Range v h = range_proper (whole (pos 0)) v (lit< tt) h
call_proper Array v h = array_of_made v h

-- ---- lists

abbrev pub AllProper : List Tree → Type 0
AllProper [] = Unit {0}
AllProper (v ∷ vs) = IsProper v × AllProper vs

pub all_items : (vs : List Tree) → AllProper vs → AreProper (items_of vs)
all_items [] h = tt
all_items (v ∷ vs) h = (h.0, all_items vs h.1)

pub all_more : (vs : List Tree) (v : Tree) → AllProper vs → IsProper v → AllProper (vs ++ v ∷ [])
all_more [] v h k = (k, tt)
all_more (u ∷ us) v h k = (h.0, all_more us v h.1 k)

all_listed : (ts : Items) → AreProper ts → AllProper (list_of ts)
all_listed no_items h = tt
all_listed (item t ts) h = (h.0, all_listed ts h.1)

all_wholes : (zs : List ℤ) → AllFitI64 zs → AllProper (wholes zs)
all_wholes [] h = tt
all_wholes (z ∷ zs) h = (h.0, all_wholes zs h.1)

abbrev pub IfSource : Option (List Tree) → Type 0
IfSource None = Unit {0}
IfSource (Some us) = AllProper us

pub source_proper : (v : Tree) → IsProper v → IfSource (source_of v)
source_proper (list ts) h = all_listed ts h
source_proper (numbers zs) h = all_wholes zs h
source_proper _ h = tt

pub over_proper : (o : Option (List Tree)) (of : List Tree → Evaluated) → IfSource o → ((us : List Tree) → AllProper us → IsProperRan (of us)) → IsProperRan (over o of)
over_proper None of h k = tt
over_proper (Some us) of h k = k us h

pub each_proper : (of : Tree → ℕ → Evaluated) (us vs : List Tree) (n : ℕ) → AllProper us → AllProper vs → ((u : Tree) (k : ℕ) → IsProper u → IsProperRan (of u k)) → IsProperRan (each_over of us vs n)
each_proper of [] vs n h k p = counted_proper n (list (items_of vs)) (all_items vs k)
each_proper of (u ∷ us) vs n h k p = then_proper (of u n) _ (p u n h.0) (λ v m proper. each_proper of us (vs ++ v ∷ []) m h.1 (all_more vs v k proper) p)

picked_proper : (c : Tree) (n : ℕ) (take leave : ℕ → Evaluated) → ((m : ℕ) → IsProperRan (take m)) → ((m : ℕ) → IsProperRan (leave m)) → IsProperRan (picked c n take leave)
picked_proper (truth true) n take leave h k = h n
picked_proper (truth false) n take leave h k = k n
picked_proper _ n take leave h k = tt

-- what a condition comes to need not be proper
then_picked : (r : Evaluated) (f : Tree → ℕ → Evaluated) → ((v : Tree) (n : ℕ) → IsProperRan (f v n)) → IsProperRan (then' r f)
then_picked (done v n) f p = p v n
then_picked (failed e) f p = tt

pub filtered_proper : (if_so of : Tree → ℕ → Evaluated) (us vs : List Tree) (n : ℕ) → AllProper us → AllProper vs → ((u : Tree) (k : ℕ) → IsProper u → IsProperRan (of u k)) → IsProperRan (filtered_over if_so of us vs n)
filtered_proper if_so of [] vs n h k p = counted_proper n (list (items_of vs)) (all_items vs k)
filtered_proper if_so of (u ∷ us) vs n h k p =
    then_picked (if_so u n) _ (λ c m. picked_proper c m _ _
    (λ l. then_proper (of u l) _ (p u l h.0) (λ v j proper. filtered_proper if_so of us (vs ++ v ∷ []) j h.1 (all_more vs v k proper) p))
    (λ l. filtered_proper if_so of us vs l h.1 k p))
