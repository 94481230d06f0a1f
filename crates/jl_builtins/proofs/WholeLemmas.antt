-- Lists of whole numbers that are kept as such, as trees.
use Rattle.std.proofs.Common.{◌≡◌, ◌≢◌, ℕ, zero, suc, Bool, true, false, ◌&&◌, List, [], ◌∷◌, ◌++◌, length, refl, sym, ap, ◌∙◌, subst, append_assoc, append-nil}
use Rattle.std.specs.Prelude.{Option, Some, None, Result, Ok, ℤ, ◌+ℤ◌}
use Rattle.std.specs.Ordering.{int_eq}
use Rattle.jl_value.specs.declared.library.TaskError.{TaskError}
use Rattle.jl_value.specs.Tree.{Tree, whole, numbers, items_of}
use Rattle.jl_value.specs.Form.{tree_of, trees_of}
use Rattle.jl_value.specs.Same.{tree_eq, items_eq, wholes_eq}
use Rattle.jl_value.specs.declared.value.Value.{Value}
use Rattle.jl_lexer.specs.declared.operators.Function.TheVariants.{Array}
use Rattle.jl_numbers.specs.Division.{within_64}
use Rattle.jl_operands.specs.declared.fault.CallFault.{CallFault}
use Rattle.jl_operands.specs.Steps.{counted, operated}
use Rattle.jl_builtins.specs.Operations.{items_length, item_at, number_at, place_of, at_place}
use Rattle.jl_builtins.specs.Calls.{sum_behind, numbers_sum, items_sum, better, numbers_best, items_best, first_best, first_number, array_behind, call_value}
use Rattle.jl_operands.specs.Lists.{wholes}
use Rattle.jl_operands.specs.Operands.{list_of_wholes}
use Rattle.jl_operands.specs.Outcomes.{Makes}

-- how many there are
pub wholes_count : (zs : List ℤ) → items_length (items_of (wholes zs)) ≡ length zs
wholes_count [] = refl
wholes_count (z ∷ zs) = ap suc (wholes_count zs)

-- the number at a place
wholes_at : (zs : List ℤ) (n : ℕ) → item_at (items_of (wholes zs)) n ≡ number_at zs n
wholes_at [] n = refl
wholes_at (z ∷ zs) zero = refl
wholes_at (z ∷ zs) (suc n) = wholes_at zs n

at_same : (zs : List ℤ) (o : Option ℕ) → at_place (item_at (items_of (wholes zs))) o ≡ at_place (number_at zs) o
at_same zs None = refl
at_same zs (Some n) = wholes_at zs n

pub wholes_placed : (zs : List ℤ) (z : ℤ) → at_place (number_at zs) (place_of (length zs) z) ≡ at_place (item_at (items_of (wholes zs))) (place_of (items_length (items_of (wholes zs))) z)
wholes_placed zs z = sym (at_same zs (place_of (length zs) z)) ∙ ap (λ n. at_place (item_at (items_of (wholes zs))) (place_of n z)) (sym (wholes_count zs))

-- their sum
sum_on : (o : Option ℤ) (f g : ℤ → Result Tree TaskError) → ((z : ℤ) → f z ≡ g z) → sum_behind o f ≡ sum_behind o g
sum_on None f g h = refl
sum_on (Some z) f g h = h z

pub wholes_sum : (n : ℤ) (zs : List ℤ) → numbers_sum n zs ≡ items_sum n (items_of (wholes zs))
wholes_sum n [] = refl
wholes_sum n (z ∷ zs) = sum_on (within_64 (n +ℤ z)) (λ m. numbers_sum m zs) (λ m. items_sum m (items_of (wholes zs))) (λ m. wholes_sum m zs)

-- the least or greatest of them
rest_best : (least : Bool) (n : ℤ) (zs : List ℤ) → numbers_best least n zs ≡ items_best least n (items_of (wholes zs))
rest_best least n [] = refl
rest_best least n (z ∷ zs) = rest_best least (better least n z) zs

pub wholes_best : (least : Bool) (zs : List ℤ) → first_number least zs ≡ first_best least (items_of (wholes zs))
wholes_best least [] = refl
wholes_best least (z ∷ zs) = rest_best least z zs

-- their array
array_of_wholes : (ys zs : List ℤ) → array_behind ys (items_of (wholes zs)) ≡ Ok (numbers (ys ++ zs))
array_of_wholes ys [] = ap (λ xs. Ok (numbers xs)) (sym (append-nil ys))
array_of_wholes ys (z ∷ zs) = array_of_wholes (ys ++ z ∷ []) zs ∙ ap (λ xs. Ok (numbers xs)) (append_assoc ys (z ∷ []) zs)

pub wholes_array : (n : ℕ) (zs : List ℤ) → operated n (call_value Array (list_of_wholes zs)) ≡ counted n (numbers zs)
wholes_array n zs = ap (operated n) (array_of_wholes [] zs)

-- an operation that is said otherwise
pub makes_by : (r : Result Value CallFault) (x y : Result Tree TaskError) → x ≡ y → Makes r x → Makes r y
makes_by r x y same h = subst (λ (z : Result Tree TaskError). Makes r z) same h

-- ---- whether two lists are the same

pub wholes_same : (a b : List ℤ) → items_eq (items_of (wholes a)) (items_of (wholes b)) ≡ wholes_eq a b
wholes_same [] [] = refl
wholes_same [] (z ∷ b) = refl
wholes_same (y ∷ a) [] = refl
wholes_same (y ∷ a) (z ∷ b) = ap (λ c. int_eq y z && c) (wholes_same a b)

and_false : (b c : Bool) → c ≡ false → (b && c) ≡ false
and_false true c e = e
and_false false c e = refl

-- lists of two lengths are not the same
pub lengths_apart : (vs : List Value) (zs : List ℤ) → length vs ≢ length zs → items_eq (items_of (trees_of vs)) (items_of (wholes zs)) ≡ false
lengths_apart [] [] h = absurd (h refl)
lengths_apart [] (z ∷ zs) h = refl
lengths_apart (v ∷ vs) [] h = refl
lengths_apart (v ∷ vs) (z ∷ zs) h = and_false (tree_eq (tree_of v) (whole z)) _ (lengths_apart vs zs (λ e. h (ap suc e)))
