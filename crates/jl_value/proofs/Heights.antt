-- A member is lower than what holds it.
use Rattle.std.proofs.Common.{◌≡◌, ℕ, zero, suc, ◌<◌, ◌≤◌, List, [], ◌∷◌, length, get_or, sym, subst, arith}
use Rattle.jl_value.specs.Tree.{height, items_of, items_height, members_of, members_height}
use Rattle.jl_value.specs.Form.{tree_of, trees_of, entries_of}
use Rattle.jl_value.specs.declared.value.Value.{Value}

at_item : (vs : List Value) (i : ℕ) (d : Value) → i < length vs → height (tree_of (get_or vs i d)) ≤ items_height (items_of (trees_of vs))
at_item [] i d h = absurd (omega arith)
at_item (v ∷ vs) zero d h = omega arith
at_item (v ∷ vs) (suc i) d h = let later = at_item vs i d (omega arith) in omega arith

pub at_entry : (es : List (List ℕ × Value)) (i : ℕ) (d : List ℕ × Value) → i < length es → height (tree_of (get_or es i d).1) ≤ members_height (members_of (entries_of es))
at_entry [] i d h = absurd (omega arith)
at_entry (e ∷ es) zero d h = omega arith
at_entry (e ∷ es) (suc i) d h = let later = at_entry es i d (omega arith) in omega arith

pub height_item : (vs : List Value) (i : ℕ) (v : Value) → i < length vs → v ≡ get_or vs i v → height (tree_of v) ≤ items_height (items_of (trees_of vs))
height_item vs i v h is = subst (λ (w : Value). height (tree_of w) ≤ items_height (items_of (trees_of vs))) (sym is) (at_item vs i v h)

pub height_entry : (es : List (List ℕ × Value)) (i : ℕ) (e : List ℕ × Value) → i < length es → e ≡ get_or es i e → height (tree_of e.1) ≤ members_height (members_of (entries_of es))
height_entry es i e h is = subst (λ (f : List ℕ × Value). height (tree_of f.1) ≤ members_height (members_of (entries_of es))) (sym is) (at_entry es i e h)
