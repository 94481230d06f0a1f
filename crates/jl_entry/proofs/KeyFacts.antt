-- The digits of a key are a key, and can stand in a path.
use Rattle.std.proofs.Common.{◌≡◌, ℕ, zero, suc, ◌/◌, ◌%◌, ◌<◌, ◌^◌, ◌&&◌, Bool, true, nat_eq, List, [], ◌∷◌, length, get_or, refl, arith}
use Rattle.std.specs.Prelude.{slice_index}
use Rattle.std.proofs.Common.{inl, inr}
use Rattle.std.proofs.lemmas.Bool.{and_parts, cases_lt, lt-ltb}
use Rattle.std.proofs.lemmas.Bool.Decides.{nat_tests}
use Rattle.std.specs.List.{list_all}
use Rattle.hex.specs.Hex.{encode_with, encode_lower, lower_digits}
use Rattle.hex.proofs.HexLemmas.{length-encode_with}
use Rattle.jl_text.specs.Paths.{is_part}
use Rattle.jl_text.specs.Texts.{is_name_byte}
use Rattle.jl_text.proofs.Names.{is_part-from_bytes}
use Rattle.jl_entry.specs.Names.{is_key, is_hex_byte}

-- a digit of a key, and a byte of a name
abbrev is_fine : ℕ → Bool
is_fine b = is_hex_byte b && is_name_byte b

-- the first n digits are such
abbrev all_fine : ℕ → Bool
all_fine zero = true
all_fine (suc n) = is_fine (slice_index lower_digits n) && all_fine n

-- each of them is
all_fine-at : (n k : ℕ) → all_fine n ≡ true → k < n → is_fine (slice_index lower_digits k) ≡ true
all_fine-at zero k h lt = absurd (omega arith)
all_fine-at (suc n) k h lt =
    let parts = and_parts (is_fine (slice_index lower_digits n)) (all_fine n) h in
    elim (cases_lt k n) [
      | inl below ↦ all_fine-at n k parts.1 below
      | inr top ↦
          let e : k ≡ n = omega arith in
          rw e parts.0
    ]

-- all sixteen are
sixteen : (k : ℕ) → k < 16 → is_fine (slice_index lower_digits k) ≡ true
sixteen k lt = all_fine-at 16 k refl lt

-- each digit of bytes is one
digits_fine : (bs : List ℕ) → ((k : ℕ) → k < length bs → get_or bs k 0 < 2 ^ 8) → (list_all is_hex_byte (encode_lower bs) ≡ true) × (list_all is_name_byte (encode_lower bs) ≡ true)
unfolding encode_with
digits_fine [] h = (refl, refl)
digits_fine (b ∷ bs) h =
    let small : b < 2 ^ 8 = h 0 (omega arith) in
    let high = sixteen (b / 16) (omega arith) in
    let low = sixteen (b % 16) (omega arith) in
    let x = and_parts (is_hex_byte (slice_index lower_digits (b / 16))) (is_name_byte (slice_index lower_digits (b / 16))) high in
    let y = and_parts (is_hex_byte (slice_index lower_digits (b % 16))) (is_name_byte (slice_index lower_digits (b % 16))) low in
    let more = digits_fine bs (λ k lt. h (suc k) (omega arith)) in
    (rw (x.0, y.0, more.0) refl, rw (x.1, y.1, more.1) refl)

module _ (bs : List ℕ) (bytes : (k : ℕ) → k < length bs → get_or bs k 0 < 2 ^ 8) (many : length bs ≡ 16) where
  -- they are a key
  pub key_is_key : is_key (encode_lower bs) ≡ true
  unfolding is_key
  key_is_key =
      let fine = digits_fine bs bytes in
      let len = length-encode_with lower_digits bs in
      let count : nat_eq (length (encode_lower bs)) 32 ≡ true = grind (arith, nat_tests) in
      rw (fine.0, count) refl

  -- they can stand in a path
  pub key_is_part : is_part (encode_lower bs) ≡ true
  key_is_part =
      let fine = digits_fine bs bytes in
      let len = length-encode_with lower_digits bs in
      is_part-from_bytes (encode_lower bs) (lt-ltb 0 (length (encode_lower bs)) (omega arith)) fine.1
