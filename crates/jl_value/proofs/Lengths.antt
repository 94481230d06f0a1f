-- Lists of two lengths are not the same.
use Rattle.jl_value.specs.Form.{tree_of, trees_of, entries_of}
use Rattle.jl_value.specs.declared.value.Value.{Value}
use Rattle.std.proofs.Common.{◌≡◌, ◌≢◌, suc, length, ℕ, Bool, true, false, ◌&&◌, List, [], ◌∷◌, bytes_eq, refl, ap}
use Rattle.jl_value.specs.Tree.{items_of, members_of}
use Rattle.jl_value.specs.Same.{tree_eq, items_eq, members_eq}

and_false : (b c : Bool) → c ≡ false → (b && c) ≡ false
and_false true c e = e
and_false false c e = refl

pub items_apart : (a b : List Value) → length a ≢ length b → items_eq (items_of (trees_of a)) (items_of (trees_of b)) ≡ false
items_apart [] [] h = absurd (h refl)
items_apart [] (y ∷ b) h = refl
items_apart (x ∷ a) [] h = refl
items_apart (x ∷ a) (y ∷ b) h = and_false (tree_eq (tree_of x) (tree_of y)) _ (items_apart a b (λ e. h (ap suc e)))

pub entries_apart : (a b : List (List ℕ × Value)) → length a ≢ length b → members_eq (members_of (entries_of a)) (members_of (entries_of b)) ≡ false
entries_apart [] [] h = absurd (h refl)
entries_apart [] (y ∷ b) h = refl
entries_apart (x ∷ a) [] h = refl
entries_apart (x ∷ a) (y ∷ b) h = and_false (bytes_eq x.0 y.0) _ (and_false (tree_eq (tree_of x.1) (tree_of y.1)) _ (entries_apart a b (λ e. h (ap suc e))))
