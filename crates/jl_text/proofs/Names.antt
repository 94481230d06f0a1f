-- A name can stand in a path.
use Rattle.std.proofs.Common.{◌≡◌, ℕ, List, [], ◌∷◌, true, false, ◌==◌, not, nat_eq, nat_lt, nat_le, length, refl, arith}
use Rattle.std.proofs.lemmas.Bool.{and_parts, or_from}
use Rattle.std.proofs.lemmas.Bool.Decides.{nat_tests}
use Rattle.std.specs.List.{list_all, list_any}
use Rattle.jl_text.specs.Paths.{is_part}
use Rattle.jl_text.specs.Texts.{is_name, is_name_byte, begins_with_digit}

-- a byte of a name is neither of these
name_byte_is : (b : ℕ) → is_name_byte b ≡ true → ((b == 47) ≡ false) × (nat_eq b 0 ≡ false) × (nat_eq b 46 ≡ false)
name_byte_is b h = (grind (arith, nat_tests), grind (arith, nat_tests), grind (arith, nat_tests))

-- the bytes of a name hold no slash and no zero byte
names-lack : (t : List ℕ) → list_all is_name_byte t ≡ true → (list_any (λ b. b == 47) t ≡ false) × (list_any (λ b. nat_eq b 0) t ≡ false)
names-lack [] h = (refl, refl)
names-lack (b ∷ bs) h =
    let parts = and_parts (is_name_byte b) _ h in
    let at = name_byte_is b parts.0 in
    let more = names-lack bs parts.1 in
    (or_from (b == 47) _ at.0 more.0, or_from (nat_eq b 0) _ at.1 more.1)

-- a text of letters, digits and `_` that is not empty can stand in a path
pub is_part-from_bytes : (t : List ℕ) → nat_lt 0 (length t) ≡ true → list_all is_name_byte t ≡ true → is_part t ≡ true
is_part-from_bytes [] e h = absurd (cc)
is_part-from_bytes (b ∷ bs) e h =
    let lack = names-lack (b ∷ bs) h in
    let at = name_byte_is b (and_parts (is_name_byte b) _ h).0 in
    rw (at.2, lack.0, lack.1) refl

-- a name can stand in a path
pub is_part-is_name : (t : List ℕ) → is_name t ≡ true → is_part t ≡ true
is_part-is_name t h =
    let a = and_parts (nat_lt 0 (length t)) _ h in
    let b = and_parts (nat_le (length t) 64) _ a.1 in
    let c = and_parts (not (begins_with_digit t)) _ b.1 in
    is_part-from_bytes t a.0 c.1
