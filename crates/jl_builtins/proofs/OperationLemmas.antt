-- Lists joined, as trees.
use Rattle.std.proofs.Common.{◌≡◌, ℕ, zero, suc, ◌<◌, ◌≤◌, List, [], ◌∷◌, ◌++◌, length, get_or, refl, sym, ap, ap₂, ◌∙◌, arith}
use Rattle.std.specs.Prelude.{◌-◌, nat_lt, if◌then◌else◌, Bool, true, false, Result, Some, None, Ok, Err, ℤ, pos, negsuc}
use lib.IntN.{◌-ℤ◌, ◌*ℤ◌}
use Rattle.jl_value.specs.declared.library.TaskError.{TaskError}
use Rattle.jl_value.specs.declared.library.TaskError.TheVariants.{BadKind, BadIndex}
use Rattle.jl_value.specs.Tree.{Tree, whole, text, list, table, numbers, Items, item, items_of}
use Rattle.jl_value.specs.Form.{tree_of, trees_of}
use Rattle.jl_value.specs.declared.value.Value.{Value}
use Rattle.jl_value.specs.declared.value.Value.TheVariants.{List as Listed}
use Rattle.jl_lexer.specs.declared.operators.Operator.{Operator}
use Rattle.jl_lexer.specs.declared.operators.Operator.TheVariants.{Or, And, Equal, Unequal, Less, AtMost, Greater, AtLeast, Plus, Minus, Times, Quotient, Remainder}
use Rattle.jl_lexer.specs.declared.operators.Prefix.{Prefix}
use Rattle.jl_lexer.specs.declared.operators.Prefix.TheVariants.{Not, Negative}
use Rattle.jl_numbers.specs.Division.{floor_quotient, floor_rest}
use Rattle.jl_builtins.specs.Arithmetic.{whole_within, divided}
use Rattle.jl_operands.specs.Steps.{counted, operated}
use Rattle.jl_value.specs.Same.{tree_eq}
use Rattle.jl_builtins.specs.Operations.{operation, prefixed, element_of, compared, holds, tested, on_wholes, on_lists, is_plus, both_items, sum_of, place_of, items_length, item_at, number_at, at_place}

pub both : (a b : List Tree) → both_items (items_of a) (items_of b) ≡ items_of (a ++ b)
both [] b = refl
both (t ∷ ts) b = ap (item t) (both ts b)

-- two lists joined are those of both members
pub lists_added : (n : ℕ) (a b : List Tree) → counted n (list (items_of (a ++ b))) ≡ operated n (sum_of (list (items_of a)) (list (items_of b)))
lists_added n a b = sym (ap (λ is. counted n (list is)) (both a b))

pub list_added : (n : ℕ) (v w : Value) (a b : List Tree) → v ≡ Listed a → w ≡ Listed b → counted n (list (items_of (a ++ b))) ≡ operated n (sum_of (tree_of v) (tree_of w))
list_added n v w a b e f = sym (ap₂ (λ x y. operated n (sum_of (tree_of x) (tree_of y))) e f ∙ ap (λ is. counted n (list is)) (both a b))

-- the item at a place within
pub item_is : (vs : List Value) (n : ℕ) (d : Value) → n < length vs → item_at (items_of (trees_of vs)) n ≡ Ok (tree_of (get_or vs n d))
item_is [] n d h = absurd (omega arith)
item_is (v ∷ vs) zero d h = refl
item_is (v ∷ vs) (suc n) d h = item_is vs n d (omega arith)

pub number_is : (zs : List ℤ) (n : ℕ) (d : ℤ) → n < length zs → number_at zs n ≡ Ok (whole (get_or zs n d))
number_is [] n d h = absurd (omega arith)
number_is (z ∷ zs) zero d h = refl
number_is (z ∷ zs) (suc n) d h = number_is zs n d (omega arith)

place_if : (b : Bool) (m n l : ℕ) → (b ≡ true → m < l) → (if b then Some m else None) ≡ Some n → n < l
place_if true m n l h e = let same : m ≡ n = cc in let low = h refl in omega (arith, same)
place_if false m n l h e = absurd (cc)

-- a place that is there is within
pub place_low : (l : ℕ) (z : ℤ) (n : ℕ) → place_of l z ≡ Some n → n < l
place_low l (pos i) n e = place_if (nat_lt i l) i n l (λ h. grind arith) e
place_low l (negsuc i) n e = place_if (nat_lt i l) (l - suc i) n l (λ h. let low : i < l = grind arith in omega arith) e

-- the number at a place that is there
pub number_placed : (zs : List ℤ) (z : ℤ) (n : ℕ) (x : ℤ) → place_of (length zs) z ≡ Some n → x ≡ get_or zs n (pos 0) → at_place (number_at zs) (place_of (length zs) z) ≡ Ok (whole x)
number_placed zs z n x e same = ap (at_place (number_at zs)) e ∙ number_is zs n (pos 0) (place_low (length zs) z n e) ∙ ap (λ y. Ok (whole y)) (sym same)

items_count : (vs : List Value) → items_length (items_of (trees_of vs)) ≡ length vs
items_count [] = refl
items_count (v ∷ vs) = ap suc (items_count vs)

-- the item at a place that is there
pub item_placed : (vs : List Value) (z : ℤ) (n : ℕ) (v w : Value) → place_of (length vs) z ≡ Some n → v ≡ get_or vs n v → w ≡ v → at_place (item_at (items_of (trees_of vs))) (place_of (items_length (items_of (trees_of vs))) z) ≡ Ok (tree_of w)
item_placed vs z n v w e same copied =
    ap (λ k. at_place (item_at (items_of (trees_of vs))) (place_of k z)) (items_count vs)
    ∙ ap (at_place (item_at (items_of (trees_of vs)))) e
    ∙ item_is vs n v (place_low (length vs) z n e)
    ∙ ap (λ (u : Value). Ok (tree_of u)) (sym same ∙ sym copied)

pub item_missing : (vs : List Value) (z : ℤ) → place_of (length vs) z ≡ None → at_place (item_at (items_of (trees_of vs))) (place_of (items_length (items_of (trees_of vs))) z) ≡ Err BadIndex
item_missing vs z e = ap (λ k. at_place (item_at (items_of (trees_of vs))) (place_of k z)) (items_count vs) ∙ ap (at_place (item_at (items_of (trees_of vs)))) e

number_none : (zs : List ℤ) (n : ℕ) → length zs ≤ n → number_at zs n ≡ Err BadIndex
number_none [] n h = refl
number_none (z ∷ zs) zero h = absurd (omega arith)
number_none (z ∷ zs) (suc n) h = number_none zs n (omega arith)

pub number_missing : (zs : List ℤ) (z : ℤ) (n : ℕ) → place_of (length zs) z ≡ Some n → length zs ≤ n → at_place (number_at zs) (place_of (length zs) z) ≡ Err BadIndex
number_missing zs z n e h = ap (at_place (number_at zs)) e ∙ number_none zs n h

-- the one operator that joins
pub plus_sum : (o : Operator) (v w : Tree) → is_plus o ≡ true → operation o v w ≡ sum_of v w
plus_sum Plus v w h = refl
plus_sum _ v w h = absurd (cc)

-- a list is no number, and no truth
pub no_prefix : (p : Prefix) (ts : Items) → prefixed p (list ts) ≡ Err BadKind
no_prefix Not ts = refl
no_prefix Negative ts = refl

-- a list is no place
pub no_element : (v : Tree) (ts : Items) → element_of v (list ts) ≡ Err BadKind
no_element (list us) ts = refl
no_element (table ms) ts = refl
no_element (numbers zs) ts = refl
no_element _ ts = refl

no_order : (v : Tree) (ts : Items) → compared v (list ts) ≡ None
no_order (whole z) ts = refl
no_order (text s) ts = refl
no_order _ ts = refl

no_number : (f : ℤ → ℤ → Result Tree TaskError) (v : Tree) (ts : Items) → on_wholes f v (list ts) ≡ Err BadKind
no_number f (whole z) ts = refl
no_number f _ ts = refl

-- an operator but `+` behind which a list stands
pub list_behind : (o : Operator) (v : Tree) (ts : Items) → is_plus o ≡ false → on_lists o (tree_eq v (list ts)) ≡ operation o v (list ts)
list_behind Or v ts h = refl
list_behind And v ts h = refl
list_behind Equal v ts h = refl
list_behind Unequal v ts h = refl
list_behind Less v ts h = ap (tested (holds true false false)) (sym (no_order v ts))
list_behind AtMost v ts h = ap (tested (holds true true false)) (sym (no_order v ts))
list_behind Greater v ts h = ap (tested (holds false false true)) (sym (no_order v ts))
list_behind AtLeast v ts h = ap (tested (holds false true true)) (sym (no_order v ts))
list_behind Plus v ts h = absurd (cc)
list_behind Minus v ts h = sym (no_number (λ a b. whole_within (a -ℤ b)) v ts)
list_behind Times v ts h = sym (no_number (λ a b. whole_within (a *ℤ b)) v ts)
list_behind Quotient v ts h = sym (no_number (divided floor_quotient) v ts)
list_behind Remainder v ts h = sym (no_number (divided floor_rest) v ts)

-- and before which one stands
pub list_before : (o : Operator) (ts : Items) (w : Tree) → is_plus o ≡ false → on_lists o (tree_eq (list ts) w) ≡ operation o (list ts) w
list_before Or ts w h = refl
list_before And ts w h = refl
list_before Equal ts w h = refl
list_before Unequal ts w h = refl
list_before Less ts w h = refl
list_before AtMost ts w h = refl
list_before Greater ts w h = refl
list_before AtLeast ts w h = refl
list_before Plus ts w h = absurd (cc)
list_before Minus ts w h = refl
list_before Times ts w h = refl
list_before Quotient ts w h = refl
list_before Remainder ts w h = refl
