-- One more name in a list.
use Rattle.std.proofs.Common.{◌≡◌, ℕ, Bool, true, false, cond, List, [], ◌∷◌, ◌++◌, map, refl, sym, ap, ap₂, ◌∙◌, nat_cmp}
use denote.Bor.{Bor}
use Rattle.std.specs.Prelude.{◌||◌}
use Rattle.std.specs.List.{list_any}
use Rattle.std.specs.Str.{bytes_eq}
use Rattle.std.specs.Ordering.{is_eq}
use Rattle.std.specs.Cmp.Lexicographic.{slice_cmp, nat_list_eq_equiv}
use Rattle.std.proofs.lemmas.Map.Text.{is_eq-slice_cmp}
use Rattle.std.proofs.lemmas.List.Folds.{list_any-append}

pub eq_turn : (a b : List ℕ) → bytes_eq a b ≡ bytes_eq b a
eq_turn a b = nat_list_eq_equiv.symm a b

or_cond : (a b : Bool) → cond b true a ≡ (a || (b || false))
or_cond true true = refl
or_cond true false = refl
or_cond false true = refl
or_cond false false = refl

-- a set that got a name has the names of a list behind which the name was put
pub name_added : (q n : List ℕ) (names : List (List ℕ)) (old new : Bool) → new ≡ cond (is_eq (slice_cmp nat_cmp n q)) true old → old ≡ list_any (bytes_eq q) names → new ≡ list_any (bytes_eq q) (names ++ n ∷ [])
name_added q n names old new e f =
    e ∙ ap₂ (λ b a. cond b true a) (is_eq-slice_cmp n q ∙ eq_turn n q) f
    ∙ or_cond (list_any (bytes_eq q) names) (bytes_eq q n)
    ∙ sym (list_any-append (bytes_eq q) names (n ∷ []))

bytes_append : (xs : List (Bor (List ℕ))) (x : Bor (List ℕ)) → map (λ x. x.now) (xs ++ x ∷ []) ≡ map (λ x. x.now) xs ++ x.now ∷ []
bytes_append [] x = refl
bytes_append (y ∷ ys) x = ap (λ s. y.now ∷ s) (bytes_append ys x)

pub bytes_pushed : (xs ys : List (Bor (List ℕ))) (x : Bor (List ℕ)) → ys ≡ xs ++ x ∷ [] → map (λ x. x.now) xs ++ x.now ∷ [] ≡ map (λ x. x.now) ys
bytes_pushed xs ys x e = sym (ap (map (λ x. x.now)) e ∙ bytes_append xs x)
