-- What the functions of every module make of lists.
use Rattle.std.proofs.Common.{◌≡◌, ℕ, zero, suc, ◌+◌, ◌^◌, ◌<◌, ◌≤◌, true, false, List, [], ◌∷◌, ◌++◌, length, min, refl, sym, ap, ap₂, ◌∙◌, subst, arith}
use Rattle.std.specs.Prelude.{◌-◌, ◌&&◌, MatchResult, Option, Some, None, Result, Ok, Err, ℤ, pos, ◌+ℤ◌}
use lib.IntN.{◌-ℤ◌}
use Rattle.std.proofs.lemmas.Int.{ints}
use Rattle.jl_value.specs.declared.library.TaskError.{TaskError}
use Rattle.jl_value.specs.declared.library.TaskError.TheVariants.{BadKind, TooLong}
use Rattle.jl_value.specs.Tree.{Tree, whole, list, numbers, Items, no_items, item, items_of, members_of}
use Rattle.jl_value.specs.Form.{tree_of, trees_of, entries_of}
use Rattle.jl_value.specs.declared.value.Value.{Value}
use Rattle.jl_value.specs.declared.value.Value.TheVariants.{List as Listed, Table as Tabled}
use Rattle.jl_operands.specs.declared.fault.CallFault.{CallFault}
use Rattle.jl_builtins.specs.Arithmetic.{whole_within}
use Rattle.jl_operands.specs.Steps.{done, failed, counted, operated, steps_within, weight, items_weight}
use Rattle.jl_builtins.specs.Operations.{both_items, items_length}
use Rattle.jl_builtins.specs.Calls.{members_length, length_of, items_from, members_to, is_whole_tree, are_whole, array_behind}
use Rattle.jl_operands.specs.Lists.{wholes}
use Rattle.jl_operands.specs.Operands.{list_of_wholes}
use Rattle.jl_operands.specs.Outcomes.{Refuses}
use Rattle.jl_operands.proofs.CountLemmas.{counted_with, counted_is, counted_on, counted_over}

items_count : (vs : List Value) → items_length (items_of (trees_of vs)) ≡ length vs
items_count [] = refl
items_count (v ∷ vs) = ap suc (items_count vs)

entries_count : (es : List (List ℕ × Value)) → members_length (members_of (entries_of es)) ≡ length es
entries_count [] = refl
entries_count (e ∷ es) = ap suc (entries_count es)

-- a length that is counted otherwise
length_by : (r : Result Value CallFault) (x y : Result Tree TaskError) → x ≡ y → MatchResult r (λ v. x ≡ Ok (tree_of v)) (λ e. Refuses e x) → MatchResult r (λ v. y ≡ Ok (tree_of v)) (λ e. Refuses e y)
length_by r x y e h = subst (λ (z : Result Tree TaskError). MatchResult r (λ v. z ≡ Ok (tree_of v)) (λ f. Refuses f z)) e h

pub list_length : (v : Value) (ts : List Tree) (vs : List Value) (r : Result Value CallFault) → v ≡ Listed ts → trees_of vs ≡ ts → MatchResult r (λ w. whole_within (pos (length vs)) ≡ Ok (tree_of w)) (λ e. Refuses e (whole_within (pos (length vs)))) → MatchResult r (λ w. length_of (tree_of v) ≡ Ok (tree_of w)) (λ e. Refuses e (length_of (tree_of v)))
list_length v ts vs r is same h =
    length_by r (whole_within (pos (length vs))) (length_of (tree_of v))
    (ap (λ n. whole_within (pos n)) (sym (items_count vs) ∙ ap (λ l. items_length (items_of l)) same) ∙ ap (λ (w : Value). length_of (tree_of w)) (sym is)) h

pub table_length : (v : Value) (ms : List (List ℕ × Tree)) (es : List (List ℕ × Value)) (r : Result Value CallFault) → v ≡ Tabled ms → entries_of es ≡ ms → MatchResult r (λ w. whole_within (pos (length es)) ≡ Ok (tree_of w)) (λ e. Refuses e (whole_within (pos (length es)))) → MatchResult r (λ w. length_of (tree_of v) ≡ Ok (tree_of w)) (λ e. Refuses e (length_of (tree_of v)))
table_length v ms es r is same h =
    length_by r (whole_within (pos (length es))) (length_of (tree_of v))
    (ap (λ n. whole_within (pos n)) (sym (entries_count es) ∙ ap (λ l. members_length (members_of l)) same) ∙ ap (λ (w : Value). length_of (tree_of w)) (sym is)) h

-- ---- ranges

both_push : (ms : List ℤ) (z : ℤ) (us : Items) → both_items (items_of (wholes (ms ++ z ∷ []))) us ≡ both_items (items_of (wholes ms)) (item (whole z) us)
both_push [] z us = refl
both_push (m ∷ ms) z us = ap (item (whole m)) (both_push ms z us)

both_none : (ms : List ℤ) → both_items (items_of (wholes ms)) no_items ≡ items_of (wholes ms)
both_none [] = refl
both_none (m ∷ ms) = ap (item (whole m)) (both_none ms)

from_step : (f x y : ℤ) (k n count : ℕ) (ms ns : List ℤ) → y ≡ x +ℤ pos 1 → k ≡ suc n → both_items (items_of (wholes ms)) (items_from x k) ≡ items_from f count → ns ≡ ms ++ x ∷ [] → both_items (items_of (wholes ns)) (items_from y n) ≡ items_from f count
from_step f x y k n count ms ns e less h same =
    ap₂ (λ l z. both_items (items_of (wholes l)) (items_from z n)) same e
    ∙ both_push ms x (items_from (x +ℤ pos 1) n)
    ∙ ap (λ j. both_items (items_of (wholes ms)) (items_from x j)) (sym less)
    ∙ h

pub from_more : (f x y : ℤ) (made count : ℕ) (ms ns : List ℤ) → y ≡ x +ℤ pos 1 → x ≡ f +ℤ pos made → made < count → both_items (items_of (wholes ms)) (items_from x (count - made)) ≡ items_from f count → ns ≡ ms ++ x ∷ []
    → (y ≡ f +ℤ pos (made + 1)) × (made + 1 ≤ count) × (both_items (items_of (wholes ns)) (items_from y (count - (made + 1))) ≡ items_from f count)
from_more f x y made count ms ns e at less h same = (omega (arith, ints), omega arith, from_step f x y (count - made) (count - (made + 1)) count ms ns e (omega arith) h same)

pub from_all : (f g x : ℤ) (made count : ℕ) (ms : List ℤ) → f ≡ g → count ≤ made → both_items (items_of (wholes ms)) (items_from x (count - made)) ≡ items_from f count → items_of (wholes ms) ≡ items_from g count
from_all f g x made count ms e all h =
    let none : count - made ≡ 0 = omega arith in
    sym (both_none ms)
    ∙ ap (λ n. both_items (items_of (wholes ms)) (items_from x n)) (sym none)
    ∙ h
    ∙ ap (λ z. items_from z count) e

from_weight : (z : ℤ) (n : ℕ) → items_weight (items_from z n) ≡ n
from_weight z zero = refl
from_weight z (suc n) = let more = from_weight (z +ℤ pos 1) n in omega arith

-- the weight of a range
pub range_weight : (a b : ℤ) (k n : ℕ) → k ≡ members_to (b -ℤ a) → n ≡ min (k + 1) (2 ^ 64 - 1) → n ≡ min (weight (list (items_from a (members_to (b -ℤ a))))) (2 ^ 64 - 1)
range_weight a b k n e same = let w = from_weight a (members_to (b -ℤ a)) in omega arith

pub range_made : (o : Option ℕ) (n m k s : ℕ) (a b : ℤ) (zs : List ℤ) → k ≡ members_to (b -ℤ a) → m ≡ min (k + 1) (2 ^ 64 - 1) → o ≡ steps_within (n + m) → o ≡ Some s → items_of (wholes zs) ≡ items_from a k
    → counted n (list (items_from a (members_to (b -ℤ a)))) ≡ done (list_of_wholes zs) s
range_made o n m k s a b zs e w same there made =
    counted_on o n m s (list (items_from a (members_to (b -ℤ a)))) (range_weight a b k m e w) same there
    ∙ ap (λ ts. done (list ts) s) (ap (items_from a) (sym e) ∙ sym made)

pub range_over : (o : Option ℕ) (n m k : ℕ) (a b : ℤ) → k ≡ members_to (b -ℤ a) → m ≡ min (k + 1) (2 ^ 64 - 1) → o ≡ steps_within (n + m) → o ≡ None → counted n (list (items_from a (members_to (b -ℤ a)))) ≡ failed TooLong
range_over o n m k a b e w same there = counted_over o n m (list (items_from a (members_to (b -ℤ a)))) (range_weight a b k m e w) same there

-- ---- arrays

-- an array of so many numbers is to be made
record IsArray (r : Result Tree TaskError) (n : ℕ) : Type 0 where
  made : List ℤ
  is : r ≡ Ok (numbers made)
  count : length made ≡ n

one_more : (zs : List ℤ) (z : ℤ) → length (zs ++ z ∷ []) ≡ suc (length zs)
one_more [] z = refl
one_more (y ∷ ys) z = ap suc (one_more ys z)

array_step : (t : Tree) (ts : Items) (zs : List ℤ) → (is_whole_tree t && are_whole ts) ≡ true
    → ((ys : List ℤ) → are_whole ts ≡ true → IsArray (array_behind ys ts) (length ys + items_length ts))
    → IsArray (array_behind zs (item t ts)) (length zs + items_length (item t ts))
array_step (whole z) ts zs h more =
    let one = one_more zs z in let rest = more (zs ++ z ∷ []) h in let n = rest.count in
    record { made = rest.made; is = rest.is; count = omega arith }
array_step _ ts zs h more = absurd (cc)

array_there : (zs : List ℤ) (ts : Items) → are_whole ts ≡ true → IsArray (array_behind zs ts) (length zs + items_length ts)
array_there zs no_items h = record { made = zs; is = refl; count = omega arith }
array_there zs (item t ts) h = array_step t ts zs h (λ ys k. array_there ys ts k)

kind_step : (t : Tree) (ts : Items) (zs : List ℤ) → (is_whole_tree t && are_whole ts) ≡ false
    → ((ys : List ℤ) → are_whole ts ≡ false → array_behind ys ts ≡ Err BadKind)
    → array_behind zs (item t ts) ≡ Err BadKind
kind_step (whole z) ts zs h more = more (zs ++ z ∷ []) h
kind_step _ ts zs h more = refl

-- a list with another member makes no array
pub no_array : (zs : List ℤ) (ts : Items) → are_whole ts ≡ false → array_behind zs ts ≡ Err BadKind
no_array zs no_items h = absurd (cc)
no_array zs (item t ts) h = kind_step t ts zs h (λ ys k. no_array ys ts k)

operated_by : (o : Option ℕ) (n m : ℕ) (r : Result Tree TaskError) (k : ℕ) → IsArray r k → m ≡ min (1 + k) (2 ^ 64 - 1) → o ≡ steps_within (n + m) → (zs : List ℤ) × (r ≡ Ok (numbers zs)) × (operated n r ≡ counted_with o (numbers zs))
operated_by o n m r k a e same =
    let count = a.count in
    (a.made, a.is, ap (operated n) a.is ∙ counted_is o n m (numbers a.made) (omega arith) same)

-- what an array of a list comes to, which is counted by the length of the list
pub array_counted : (o : Option ℕ) (n m : ℕ) (vs : List Value) → are_whole (items_of (trees_of vs)) ≡ true → m ≡ min (1 + length vs) (2 ^ 64 - 1) → o ≡ steps_within (n + m)
    → (zs : List ℤ) × (array_behind [] (items_of (trees_of vs)) ≡ Ok (numbers zs)) × (operated n (array_behind [] (items_of (trees_of vs))) ≡ counted_with o (numbers zs))
array_counted o n m vs h e same =
    let count = items_count vs in
    operated_by o n m (array_behind [] (items_of (trees_of vs))) (0 + items_length (items_of (trees_of vs))) (array_there [] (items_of (trees_of vs)) h) (omega arith) same

pub array_made : (o : Option ℕ) (n m s : ℕ) (vs : List Value) (v : Value) → are_whole (items_of (trees_of vs)) ≡ true → m ≡ min (1 + length vs) (2 ^ 64 - 1) → o ≡ steps_within (n + m) → o ≡ Some s → array_behind [] (items_of (trees_of vs)) ≡ Ok (tree_of v)
    → operated n (array_behind [] (items_of (trees_of vs))) ≡ done (tree_of v) s
array_made o n m s vs v h e same there made =
    let a = array_counted o n m vs h e same in
    let is : numbers a.0 ≡ tree_of v = (let both = sym a.1 ∙ made in cc) in
    a.2 ∙ ap (λ p. counted_with p (numbers a.0)) there ∙ ap (λ (t : Tree). done t s) is

pub array_long : (o : Option ℕ) (n m : ℕ) (vs : List Value) → are_whole (items_of (trees_of vs)) ≡ true → m ≡ min (1 + length vs) (2 ^ 64 - 1) → o ≡ steps_within (n + m) → o ≡ None
    → operated n (array_behind [] (items_of (trees_of vs))) ≡ failed TooLong
array_long o n m vs h e same there = let a = array_counted o n m vs h e same in a.2 ∙ ap (λ p. counted_with p (numbers a.0)) there
