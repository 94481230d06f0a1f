-- Reading digits one after the other.
use Rattle.std.proofs.Common.{◌≡◌, ℕ, zero, suc, ◌+◌, ◌-◌, ◌*◌, ◌^◌, ◌<◌, ◌≤◌, List, [], ◌∷◌, Bool, true, false, Some, None, fold, take, drop, length, get_or, cond, nat_lt, nat_le, refl, sym, ap, subst, ◌∙◌, arith, add-zero, add-suc, add-one}
use Rattle.std.specs.Prelude.{if◌then◌else◌}
use Rattle.std.proofs.lemmas.Bool.{and_parts, and_from}
use Rattle.std.proofs.lemmas.Bool.Decides.{nat_tests}
use Rattle.std.proofs.lemmas.Grind.{pow_more}
use Rattle.std.proofs.Math.Seq.{drop-cons}
use Rattle.std.specs.Char.{is_ascii_digit}
use Rattle.std.specs.List.{list_all, prefix_len}
use Rattle.jl_numbers.specs.Digits.{are_digits, longer, decimal, at_most, number_of}

-- digits behind a number make it no smaller
pub grows : (digits : List ℕ) (n : ℕ) → n ≤ fold longer n digits
grows [] n = omega arith
grows (d ∷ ds) n = let rest = grows ds (longer n d) in omega arith

-- the next of the digits that are left
pub next : (digits : List ℕ) (i n : ℕ) → i < length digits → fold longer n (drop i digits) ≡ fold longer (longer n (get_or digits i 0)) (drop (i + 1) digits)
next digits i n h = ap (fold longer n) (drop-cons digits i 0 h) ∙ ap (λ k. fold longer (longer n (get_or digits i 0)) (drop k digits)) (let e : suc i ≡ i + 1 = omega arith in e)

-- a number that is too large stays so
pub too_large : (most m n : ℕ) → m ≤ n → at_most most m ≡ None → at_most most n ≡ None
too_large most m n h e = by (nat_le m most) (nat_le n most) refl refl
  where
    by : (b c : Bool) → nat_le m most ≡ b → nat_le n most ≡ c → at_most most n ≡ None
    by true c p q = let none : Some m ≡ None = sym (ap (λ b. cond b (Some m) None) p) ∙ e in absurd (cc)
    by false true p q = absurd (grind (arith, nat_tests))
    by false false p q = ap (λ b. cond b (Some n) None) q

-- digits of which the first make too large a number
pub past : (most : ℕ) (digits : List ℕ) (i n : ℕ) → i < length digits → fold longer n (drop i digits) ≡ decimal digits
    → at_most most (longer n (get_or digits i 0)) ≡ None → at_most most (decimal digits) ≡ None
past most digits i n h left e =
    let m = longer n (get_or digits i 0) in
    let whole : fold longer m (drop (i + 1) digits) ≡ decimal digits = sym (next digits i n h) ∙ left in
    let more = grows (drop (i + 1) digits) m in
    too_large most m (decimal digits) (omega arith) e

-- a number that is not too large
pub fits : (most v n : ℕ) → v ≡ n → v ≤ most → Some v ≡ at_most most n
fits most v n e small = by (nat_le v most) refl ∙ ap (at_most most) e
  where
    by : (b : Bool) → nat_le v most ≡ b → Some v ≡ at_most most v
    by true p = sym (ap (λ b. cond b (Some v) None) p)
    by false p = absurd (grind (arith, nat_tests))

-- digits behind a number of i digits
below_from : (ds : List ℕ) (v i : ℕ) → v < 10 ^ i → list_all is_ascii_digit ds ≡ true → fold longer v ds < 10 ^ (length ds + i)
below_from [] v i h all = let same : i ≡ length {A = ℕ} [] + i = omega arith in subst (λ k. v < 10 ^ k) same h
below_from (d ∷ ds) v i h all =
    let parts = and_parts (is_ascii_digit d) (list_all is_ascii_digit ds) all in
    let digit : d ≤ 57 = (let own = parts.0 in grind (arith, nat_tests)) in
    let more : 10 ^ (i + 1) ≡ 10 ^ i * 10 = pow_more 10 i in
    let first : longer v d < 10 ^ (i + 1) = omega arith in
    let rest = below_from ds (longer v d) (i + 1) first parts.1 in
    let same : length ds + (i + 1) ≡ length (d ∷ ds) + i = omega arith in
    subst (λ k. fold longer (longer v d) ds < 10 ^ k) same rest

-- n digits write a number below 10^n
pub decimal-below : (ds : List ℕ) → list_all is_ascii_digit ds ≡ true → decimal ds < 10 ^ length ds
decimal-below ds all = let same : length ds + 0 ≡ length ds = omega arith in subst (λ k. decimal ds < 10 ^ k) same (below_from ds 0 0 (omega arith) all)

ten_grows : (d i : ℕ) → 10 ^ i ≤ 10 ^ (i + d)
ten_grows zero i = rw add-zero (omega arith)
ten_grows (suc d) i =
    let before : 10 ^ i ≤ 10 ^ (i + d) = ten_grows d i in
    let more : 10 ^ ((i + d) + 1) ≡ 10 ^ (i + d) * 10 = pow_more 10 (i + d) in
    rw (add-suc, ← add-one (i + d)) (omega arith)

-- a power of ten grows
pub ten-le : (i n : ℕ) → i ≤ n → 10 ^ i ≤ 10 ^ n
ten-le i n few = let whole : i + (n - i) ≡ n = omega arith in subst (λ k. 10 ^ i ≤ 10 ^ k) whole (ten_grows (n - i) i)

-- few digits write a number that is not too large
pub number_of-few : (most n : ℕ) (ds : List ℕ) → are_digits ds ≡ true → length ds ≤ n → 10 ^ n ≤ suc most → number_of most ds ≡ Some (decimal ds)
number_of-few most n ds all few room =
    let small = decimal-below ds (and_parts (nat_lt 0 (length ds)) (list_all is_ascii_digit ds) all).1 in
    let grown = ten-le (length ds) n few in
    ap (λ b. if b then at_most most (decimal ds) else None) all ∙ sym (fits most (decimal ds) (decimal ds) refl (omega arith))

front_by : (b : Bool) (x : ℕ) (xs : List ℕ) → is_ascii_digit x ≡ b → list_all is_ascii_digit (take (prefix_len is_ascii_digit xs) xs) ≡ true
    → list_all is_ascii_digit (take (cond b (1 + prefix_len is_ascii_digit xs) 0) (x ∷ xs)) ≡ true
front_by false x xs e rest = refl
front_by true x xs e rest =
    let on : suc (prefix_len is_ascii_digit xs) ≡ 1 + prefix_len is_ascii_digit xs = omega arith in
    subst (λ k. list_all is_ascii_digit (take k (x ∷ xs)) ≡ true) on (and_from (is_ascii_digit x) (list_all is_ascii_digit (take (prefix_len is_ascii_digit xs) xs)) e rest)

-- the digits at the front of a text are digits
pub digits_front : (xs : List ℕ) → list_all is_ascii_digit (take (prefix_len is_ascii_digit xs) xs) ≡ true
digits_front [] = refl
digits_front (x ∷ xs) = front_by (is_ascii_digit x) x xs refl (digits_front xs)
