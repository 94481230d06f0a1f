-- How high the members of lists and tables are.
use Rattle.std.proofs.Common.{◌≡◌, ℕ, zero, suc, ◌<◌, ◌≤◌, max, List, [], ◌∷◌, ◌++◌, length, get_or, sym, subst, arith}
use Rattle.jl_lexer.specs.Trees.{Expression, height, members_of, members_height, entries_of, entries_height}

pub members_higher : (es : List Expression) (e : Expression) → members_height (members_of (es ++ e ∷ [])) ≡ max (members_height (members_of es)) (height e)
members_higher [] e = omega arith
members_higher (a ∷ es) e = let later = members_higher es e in omega arith

pub entries_higher : (ps : List (List ℕ × Expression)) (k : List ℕ) (e : Expression) → entries_height (entries_of (ps ++ (k, e) ∷ [])) ≡ max (entries_height (entries_of ps)) (height e)
entries_higher [] k e = omega arith
entries_higher (p ∷ ps) k e = let later = entries_higher ps k e in omega arith

at_member : (es : List Expression) (i : ℕ) (d : Expression) → i < length es → height (get_or es i d) ≤ members_height (members_of es)
at_member [] i d h = absurd (omega arith)
at_member (e ∷ es) zero d h = omega arith
at_member (e ∷ es) (suc i) d h = let later = at_member es i d (omega arith) in omega arith

at_entry : (ps : List (List ℕ × Expression)) (i : ℕ) (d : List ℕ × Expression) → i < length ps → height (get_or ps i d).1 ≤ entries_height (entries_of ps)
at_entry [] i d h = absurd (omega arith)
at_entry (p ∷ ps) zero d h = omega arith
at_entry (p ∷ ps) (suc i) d h = let later = at_entry ps i d (omega arith) in omega arith

-- a member is no higher than the highest
pub member_height : (es : List Expression) (i : ℕ) (e : Expression) → i < length es → e ≡ get_or es i e → height e ≤ members_height (members_of es)
member_height es i e h is = subst (λ (x : Expression). height x ≤ members_height (members_of es)) (sym is) (at_member es i e h)

pub entry_height : (ps : List (List ℕ × Expression)) (i : ℕ) (p : List ℕ × Expression) → i < length ps → p ≡ get_or ps i p → height p.1 ≤ entries_height (entries_of ps)
entry_height ps i p h is = subst (λ (x : List ℕ × Expression). height x.1 ≤ entries_height (entries_of ps)) (sym is) (at_entry ps i p h)
