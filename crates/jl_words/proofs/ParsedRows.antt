-- The rows that clap fills, by the values that they hold.
use Rattle.std.proofs.Common.{◌≡◌, List, [], ◌∷◌, ◌++◌, Bool, true, false, ◌||◌, Option, Some, None, option_map, refl, sym, ap, ◌∙◌, if◌then◌else◌, is_some, cond, find}
use Rattle.std.specs.Str.{bytes_eq}
use Rattle.std.proofs.lemmas.Option.{same_Some, none-some}
use Rattle.std.proofs.lemmas.Slice.Eq.{bytes_eq-Decides}
use Rattle.clap.specs.Walk.{Row, at_row, has_row, more_values, all_of}
use Rattle.clap.specs.declared.parser.matches.ValueSource.{ValueSource}
use Rattle.jl_words.specs.Reading.{Text}

pub true≢false' : true ≡ false → ⊥
true≢false' e = cc

-- the first, or else the second
abbrev pub or_else_some : {A : Type 0} → Option A → Option A → Option A
or_else_some None b = b
or_else_some (Some a) b = Some a

pub has-all : (id : Text) (rows : List Row) → has_row id rows ≡ is_some (all_of id rows)
has-all id [] = refl
has-all id (r ∷ rs) = by (bytes_eq r.id id) refl (has-all id rs)
  where
    by : (b : Bool) → bytes_eq r.id id ≡ b → has_row id rs ≡ is_some (all_of id rs) → has_row id (r ∷ rs) ≡ is_some (all_of id (r ∷ rs))
    by true e again = rw e refl
    by false e again = rw e again

pub at_row-new : (id : Text) (change : Row → List Row) (missing rows : List Row) → has_row id rows ≡ false → at_row id change missing rows ≡ rows ++ missing
at_row-new id change missing [] h = refl
at_row-new id change missing (r ∷ rs) h = by (bytes_eq r.id id) refl (at_row-new id change missing rs)
  where
    by : (b : Bool) → bytes_eq r.id id ≡ b → (has_row id rs ≡ false → at_row id change missing rs ≡ rs ++ missing) → at_row id change missing (r ∷ rs) ≡ r ∷ (rs ++ missing)
    by true e again = absurd (true≢false' (sym (ap (λ c. c || has_row id rs) e) ∙ h))
    by false e again = ap (λ c. if c then change r ++ rs else r ∷ at_row id change missing rs) e ∙ ap (λ l. r ∷ l) (again (sym (ap (λ c. c || has_row id rs) e) ∙ h))

pub all-append : (m : Text) (xs ys : List Row) → all_of m (xs ++ ys) ≡ or_else_some (all_of m xs) (all_of m ys)
all-append m [] ys = refl
all-append m (x ∷ xs) ys = by (bytes_eq x.id m) refl (all-append m xs ys)
  where
    by : (b : Bool) → bytes_eq x.id m ≡ b → all_of m (xs ++ ys) ≡ or_else_some (all_of m xs) (all_of m ys) → all_of m (x ∷ (xs ++ ys)) ≡ or_else_some (all_of m (x ∷ xs)) (all_of m ys)
    by true e again = rw e refl
    by false e again = rw e again

-- more values of an id that has some
pub all-more : (s : ValueSource) (id : Text) (values : List Text) (missing rows : List Row) (vs : List Text) → all_of id rows ≡ Some vs → all_of id (at_row id (more_values s values) missing rows) ≡ Some (vs ++ values)
all-more s id values missing [] vs h = absurd (none-some vs h)
all-more s id values missing (x ∷ xs) vs h = by (bytes_eq x.id id) refl (all-more s id values missing xs vs)
  where
    by : (b : Bool) → bytes_eq x.id id ≡ b → (all_of id xs ≡ Some vs → all_of id (at_row id (more_values s values) missing xs) ≡ Some (vs ++ values)) → all_of id (at_row id (more_values s values) missing (x ∷ xs)) ≡ Some (vs ++ values)
    by true e again =
        let same : x.values ≡ vs = same_Some x.values vs (sym (ap (λ b. option_map (λ (r : Row). r.values) (cond b (Some x) (find (λ (r : Row). bytes_eq r.id id) xs))) e) ∙ h) in
        rw (e, e) (ap (λ q. Some (q ++ values)) same)
    by false e again = rw (e, e) (again (sym (ap (λ b. option_map (λ (r : Row). r.values) (cond b (Some x) (find (λ (r : Row). bytes_eq r.id id) xs))) e) ∙ h))

pub same_text : (a b : Text) → bytes_eq a b ≡ true → a ≡ b
same_text a b e = (bytes_eq-Decides a b).0 e

pub itself : (a : Text) → bytes_eq a a ≡ true
itself a = (bytes_eq-Decides a a).1 refl

-- and the values of the other ids stay
pub all-others : (s : ValueSource) (id m : Text) (values : List Text) (missing rows : List Row) → bytes_eq id m ≡ false → has_row id rows ≡ true → all_of m (at_row id (more_values s values) missing rows) ≡ all_of m rows
all-others s id m values missing [] d h = absurd (true≢false' (sym h))
all-others s id m values missing (x ∷ xs) d h = by (bytes_eq x.id id) refl (all-others s id m values missing xs d)
  where
    by : (b : Bool) → bytes_eq x.id id ≡ b → (has_row id xs ≡ true → all_of m (at_row id (more_values s values) missing xs) ≡ all_of m xs) → all_of m (at_row id (more_values s values) missing (x ∷ xs)) ≡ all_of m (x ∷ xs)
    by true e again =
        let other : bytes_eq x.id m ≡ false = ap (λ q. bytes_eq q m) (same_text x.id id e) ∙ d in
        rw (e, other) refl
    by false e again = rw e (cases (bytes_eq x.id m) refl (again (sym (ap (λ c. c || has_row id xs) e) ∙ h)))
      where
        cases : (c : Bool) → bytes_eq x.id m ≡ c → all_of m (at_row id (more_values s values) missing xs) ≡ all_of m xs → all_of m (x ∷ at_row id (more_values s values) missing xs) ≡ all_of m (x ∷ xs)
        cases true f more = rw f refl
        cases false f more = rw f more
