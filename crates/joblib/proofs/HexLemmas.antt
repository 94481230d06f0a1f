-- What is written in hexadecimal is a token behind a letter.
use Rattle.std.proofs.Common.{◌≡◌, ℕ, zero, suc, ◌+◌, ◌*◌, ◌/◌, ◌%◌, ◌^◌, ◌<◌, ◌≤◌, List, [], ◌∷◌, length, Bool, true, false, ◌&&◌, refl, arith}
use Rattle.std.specs.Prelude.{nat_lt, nat_le, if◌then◌else◌, ◌==◌}
use Rattle.std.specs.List.{list_all}
use Rattle.std.specs.Fmt.{digits, digits_onto, digit_glyph}
use Rattle.std.proofs.lemmas.Bool.{le-leb, lt-ltb, eqb-false}
use Rattle.std.proofs.lemmas.Grind.{common_steps}
use Rattle.jl_text.specs.Texts.{is_token, is_token_byte}
use Rattle.joblib.specs.Tokens.{moment_token}

-- both are true
and_true : (a b : Bool) → a ≡ true → b ≡ true → (a && b) ≡ true
and_true true b p q = q
and_true false b p q = p

-- what holds of both branches
if_both : {A : Type 0} (P : A → Type 0) (b : Bool) (x y : A) → P x → (b ≡ false → P y) → P (if b then x else y)
if_both P true x y h k = h
if_both P false x y h k = k refl

-- a digit is a lower-case letter or a decimal digit
pub is_token_byte-glyph : (d : ℕ) → d < 16 → is_token_byte (digit_glyph false d) ≡ true
is_token_byte-glyph d small = grind (arith, common_steps)

-- so are all digits
pub list_all-hex : (k n : ℕ) (acc : List ℕ) → list_all is_token_byte acc ≡ true → list_all is_token_byte (digits_onto k 16 false n acc) ≡ true
list_all-hex zero n acc h = h
list_all-hex (suc k) n acc h =
    let digit : is_token_byte (digit_glyph false (n % 16)) ≡ true = is_token_byte-glyph (n % 16) (omega arith) in
    let more : list_all is_token_byte (digit_glyph false (n % 16) ∷ acc) ≡ true = and_true (is_token_byte (digit_glyph false (n % 16))) (list_all is_token_byte acc) digit h in
    if_both (λ ds. list_all is_token_byte ds ≡ true) (n / 16 == 0) (digit_glyph false (n % 16) ∷ acc) (digits_onto k 16 false (n / 16) (digit_glyph false (n % 16) ∷ acc)) more
    (λ _. list_all-hex k (n / 16) (digit_glyph false (n % 16) ∷ acc) more)

-- the power of 16
abbrev bound : ℕ → ℕ
bound zero = 1
bound (suc j) = 16 * bound j

-- no more digits than the power of 16 above the number
length-hex : (k j n : ℕ) (acc : List ℕ) → n < bound (suc j) → length (digits_onto k 16 false n acc) ≤ suc j + length acc
length-hex zero j n acc h = omega arith
length-hex (suc k) zero n acc h =
    if_both (λ ds. length ds ≤ 1 + length acc) (n / 16 == 0) (digit_glyph false (n % 16) ∷ acc) (digits_onto k 16 false (n / 16) (digit_glyph false (n % 16) ∷ acc)) (omega arith)
    (λ e. let small : n / 16 ≡ 0 = omega arith in absurd (eqb-false (n / 16) 0 e small))
length-hex (suc k) (suc j) n acc h =
    if_both (λ ds. length ds ≤ suc (suc j) + length acc) (n / 16 == 0) (digit_glyph false (n % 16) ∷ acc) (digits_onto k 16 false (n / 16) (digit_glyph false (n % 16) ∷ acc)) (omega arith)
    (λ e. let below : n / 16 < bound (suc j) = omega arith in
    let more : length (digits_onto k 16 false (n / 16) (digit_glyph false (n % 16) ∷ acc)) ≤ suc j + length (digit_glyph false (n % 16) ∷ acc) = length-hex k j (n / 16) (digit_glyph false (n % 16) ∷ acc) below in
    omega arith)

-- no number of 64 bits has more than 16 of them
length-digits : (n : ℕ) → n < 2 ^ 64 → length (digits 16 false n) ≤ 16
unfolding digits
length-digits n h = length-hex 64 15 n [] h

-- all of them
list_all-digits : (n : ℕ) → list_all is_token_byte (digits 16 false n) ≡ true
unfolding digits
list_all-digits n = list_all-hex 64 n [] refl

-- a moment gives a token
pub is_token-moment : (n : ℕ) → n < 2 ^ 64 → is_token (moment_token n) ≡ true
is_token-moment n h =
    let few : length (digits 16 false n) ≤ 16 = length-digits n h in
    let some : nat_lt 0 (suc (length (digits 16 false n))) ≡ true = lt-ltb _ _ (omega arith) in
    let most : nat_le (suc (length (digits 16 false n))) 48 ≡ true = le-leb _ _ (omega arith) in
    and_true _ _ (and_true _ _ some most) (list_all-digits n)
