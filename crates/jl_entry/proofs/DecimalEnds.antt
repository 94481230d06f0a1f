-- Where a decimal ends, and what stands round the first of a byte.
use Rattle.std.proofs.Common.{◌≡◌, ℕ, ◌+◌, ◌-◌, ◌<◌, ◌≤◌, ◌^◌, ◌==◌, List, [], ◌∷◌, ◌++◌, length, not, cond, Bool, true, false, nat_lt, get_or, take, drop, Some, None, Result, Ok, Err, refl, sym, ap, ◌∙◌, arith, length-append, length-drop, zero-add, decimal, position}
use Rattle.std.proofs.Math.Seq.{take-append_seam, drop-append-add}
use Rattle.std.proofs.lemmas.Bool.{and_parts}
use Rattle.std.proofs.lemmas.Bool.Decides.{nat_tests, Decides-eqb}
use Rattle.std.proofs.lemmas.Fmt.{decimal_is_IsNumeral, decimal_injective, parse-decimal}
use Rattle.std.proofs.lemmas.List.{append_cancel_left, take_all, drop_all}
use Rattle.std.proofs.lemmas.List.Sums.{prefix_len-le-length, split_at_first, passes_at_first}
use Rattle.std.proofs.lemmas.Str.Parse.{digit_from_value}
use Rattle.std.specs.List.{position_or_len, before_first, after_first, list_all}
use Rattle.std.specs.Str.Parse.{AllDigits, ParsesUnsigned}

-- ---- the first byte that passes a test

-- a choice that gave nothing
none_is : (b : Bool) (a : ℕ) → cond b (Some a) None ≡ None → b ≡ false
none_is true a e = absurd (cc)
none_is false a e = refl

-- a choice that gave something
some_is : (b : Bool) (a i : ℕ) → cond b (Some a) None ≡ Some i → (b ≡ true) × (a ≡ i)
some_is true a i e = (refl, cc)
some_is false a i e = absurd (cc)

-- nowhere: the place is the length
pub position_none : (p : ℕ → Bool) (xs : List ℕ) → position p xs ≡ None → position_or_len p xs ≡ length xs
position_none p xs e =
    let test : nat_lt (position_or_len p xs) (length xs) ≡ false = none_is (nat_lt (position_or_len p xs) (length xs)) (position_or_len p xs) e in
    let most = prefix_len-le-length (λ x. not (p x)) xs in
    grind (arith, nat_tests)

-- at a place: what stands before it and behind it
pub parts_at : (p : ℕ → Bool) (xs : List ℕ) (i : ℕ) → position p xs ≡ Some i
    → (position_or_len p xs < length xs) × (take i xs ≡ before_first p xs) × (take (length xs - (i + 1)) (drop (i + 1) xs) ≡ after_first p xs)
parts_at p xs i e =
    let is = some_is (nat_lt (position_or_len p xs) (length xs)) (position_or_len p xs) i e in
    let here : position_or_len p xs ≡ i = is.1 in
    let test : nat_lt (position_or_len p xs) (length xs) ≡ true = is.0 in (
      grind (arith, nat_tests),
      ap (λ k. take k xs) (sym here),
      take_all (length xs - (i + 1)) (drop (i + 1) xs) (omega (arith, length-drop (i + 1) xs)) ∙ ap (λ k. drop (k + 1) xs) (sym here),
    )

-- nowhere: all stands before it, and nothing behind it
pub no_cut : (p : ℕ → Bool) (xs : List ℕ) → position_or_len p xs ≡ length xs → (before_first p xs ≡ xs) × (after_first p xs ≡ [])
no_cut p xs e = (take_all (position_or_len p xs) xs (omega arith), drop_all (position_or_len p xs + 1) xs (omega arith))

-- what stands round a byte that is the first of its kind
pub cut_here : (front rest : List ℕ) (stop : ℕ) → position_or_len (λ b. b == stop) (front ++ stop ∷ rest) ≡ length front
    → (before_first (λ b. b == stop) (front ++ stop ∷ rest) ≡ front) × (after_first (λ b. b == stop) (front ++ stop ∷ rest) ≡ rest)
cut_here front rest stop h = (
  ap (λ k. take k (front ++ stop ∷ rest)) h ∙ take-append_seam front (stop ∷ rest),
  ap (λ k. drop (k + 1) (front ++ stop ∷ rest)) h ∙ drop-append-add front (stop ∷ rest) 1,
)

-- a list is what stands round its first such byte
pub put_together : (xs : List ℕ) (stop : ℕ) → position_or_len (λ b. b == stop) xs < length xs
    → xs ≡ before_first (λ b. b == stop) xs ++ stop ∷ after_first (λ b. b == stop) xs
put_together xs stop h =
    let here : get_or xs (position_or_len (λ b. b == stop) xs) 0 ≡ stop = (Decides-eqb (get_or xs (position_or_len (λ b. b == stop) xs) 0) stop).0 (passes_at_first (λ b. b == stop) xs 0 h) in
    split_at_first (λ b. b == stop) xs 0 h ∙ ap (λ (b : ℕ). before_first (λ b. b == stop) xs ++ b ∷ after_first (λ b. b == stop) xs) here

-- bytes that are not such pass by
pub stop_behind : (front rest : List ℕ) (stop : ℕ) → list_all (λ b. not (b == stop)) front ≡ true
    → position_or_len (λ b. b == stop) (front ++ rest) ≡ length front + position_or_len (λ b. b == stop) rest
stop_behind [] rest stop h = sym (zero-add (position_or_len (λ b. b == stop) rest))
stop_behind (b ∷ bs) rest stop h =
    let parts = and_parts (not (b == stop)) (list_all (λ b. not (b == stop)) bs) h in
    rw (parts.0, stop_behind bs rest stop parts.1) (omega arith)

-- ---- decimals

-- the first byte that is no digit is found behind the digits
pub digits_end : (ds : List ℕ) (stop : ℕ) (rest : List ℕ) → AllDigits 10 ds → (48 ≤ stop → 57 < stop) → position_or_len (λ b. b == stop) (ds ++ stop ∷ rest) ≡ length ds
digits_end [] stop rest all out = let same : (stop == stop) ≡ true = grind (arith, nat_tests) in rw same refl
digits_end (d ∷ ds) stop rest all out =
    let range = digit_from_value d all.0 in
    let other : (d == stop) ≡ false = grind (arith, nat_tests) in
    rw (other, digits_end ds stop rest all.1 out) (omega arith)

-- the same of a decimal
pub decimal_end : (n stop : ℕ) (rest : List ℕ) → n < 2 ^ 64 → (48 ≤ stop → 57 < stop) → position_or_len (λ b. b == stop) (decimal n ++ stop ∷ rest) ≡ length (decimal n)
decimal_end n stop rest small out = let is = decimal_is_IsNumeral n small in digits_end (decimal n) stop rest is.0.1 out

-- without such a byte no decimal ends
pub no_end : (xs : List ℕ) (stop : ℕ) → (48 ≤ stop → 57 < stop) → position_or_len (λ b. b == stop) xs ≡ length xs
    → (n : ℕ) (rest : List ℕ) → n ≤ 2 ^ 62 → xs ≡ decimal n ++ stop ∷ rest → ⊥
no_end xs stop out h n rest small e =
    let there : position_or_len (λ b. b == stop) xs ≡ length (decimal n) = ap (position_or_len (λ b. b == stop)) e ∙ decimal_end n stop rest (omega arith) out in
    omega (arith, ap length e, length-append (decimal n) (stop ∷ rest))

-- what stands before the first such byte is the decimal
pub front_is : (xs : List ℕ) (stop : ℕ) → (48 ≤ stop → 57 < stop) → (n : ℕ) (rest : List ℕ) → n ≤ 2 ^ 62 → xs ≡ decimal n ++ stop ∷ rest
    → before_first (λ b. b == stop) xs ≡ decimal n
front_is xs stop out n rest small e = ap (before_first (λ b. b == stop)) e ∙ (cut_here (decimal n) rest stop (decimal_end n stop rest (omega arith) out)).0

-- a decimal and the byte that ends it are told from the front
pub same_numbers : (m n stop : ℕ) (r s : List ℕ) → (48 ≤ stop → 57 < stop) → m ≤ 2 ^ 62 → n ≤ 2 ^ 62 → decimal m ++ stop ∷ r ≡ decimal n ++ stop ∷ s → (m ≡ n) × (r ≡ s)
same_numbers m n stop r s out small small' e =
    let front : decimal m ≡ decimal n = sym (front_is (decimal m ++ stop ∷ r) stop out m r small refl) ∙ front_is (decimal m ++ stop ∷ r) stop out n s small' e in
    let back : stop ∷ r ≡ stop ∷ s = append_cancel_left (decimal n) (stop ∷ r) (stop ∷ s) (ap (λ d. d ++ stop ∷ r) (sym front) ∙ e) in
    (decimal_injective m n (omega arith) (omega arith) front, cc)

-- the same behind words
pub same_fields : (words : List ℕ) (m n stop : ℕ) (r s : List ℕ) → (48 ≤ stop → 57 < stop) → m ≤ 2 ^ 62 → n ≤ 2 ^ 62
    → words ++ (decimal m ++ stop ∷ r) ≡ words ++ (decimal n ++ stop ∷ s) → (m ≡ n) × (r ≡ s)
same_fields words m n stop r s out small small' e = same_numbers m n stop r s out small small' (append_cancel_left words (decimal m ++ stop ∷ r) (decimal n ++ stop ∷ s) e)

-- ---- reading

-- a decimal is parsed as its number
pub parsed_is : {E : Type 0} (n : ℕ) (digits text : List ℕ) (r : Result ℕ E) → n ≤ 2 ^ 62 → text ≡ digits → digits ≡ decimal n → ParsesUnsigned 64 10 text r → r ≡ Ok n
parsed_is n digits text r small same e h = parse-decimal 64 n text r (omega arith) (omega arith) (same ∙ e) h

-- a result is not both
pub not_err : {E : Type 0} (n : ℕ) (e : E) (r : Result ℕ E) → r ≡ Err e → r ≡ Ok n → ⊥
not_err n e r h k = cc

-- a result has one value
pub same_ok : {E : Type 0} (m n : ℕ) (r : Result ℕ E) → r ≡ Ok m → r ≡ Ok n → m ≡ n
same_ok m n r h k = cc
