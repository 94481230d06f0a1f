-- A code's text ends at its second newline, so none is a proper front of another.
use Rattle.std.proofs.Common.{◌≡◌, ◌≢◌, ◌⊎◌, inl, inr, ℕ, suc, ◌+◌, ◌≤◌, ◌<◌, ◌^◌, ◌==◌, Bool, true, false, not, List, [], ◌∷◌, ◌++◌, refl, sym, ap, ◌∙◌, subst, arith, append_assoc, decimal, true≢false}
use Rattle.std.proofs.lemmas.Bool.{and_parts}
use Rattle.std.proofs.lemmas.Bool.Decides.{nat_tests}
use Rattle.std.proofs.lemmas.Fmt.{decimal_is_IsNumeral}
use Rattle.std.proofs.lemmas.Str.Parse.{digit_from_value}
use Rattle.std.specs.Str.Parse.{AllDigits}
use Rattle.jl_value.specs.Lines.{is_line, IsLine}
use Rattle.jl_entry.specs.Codes.{line_words, code_text}

abbrev one_if : Bool → ℕ
one_if true = 1
one_if false = 0

-- how many newlines stand in a text
abbrev newlines : List ℕ → ℕ
newlines [] = 0
newlines (b ∷ bs) = one_if (b == 10) + newlines bs

newlines_append : (xs ys : List ℕ) → newlines (xs ++ ys) ≡ newlines xs + newlines ys
newlines_append [] ys = omega arith
newlines_append (x ∷ xs) ys = let more = newlines_append xs ys in omega arith

none_at : (t : Bool) → not t ≡ true → one_if t ≡ 0
none_at true e = absurd (true≢false (sym e))
none_at false e = refl

-- one line has none
line_newlines : (s : List ℕ) → is_line s ≡ true → newlines s ≡ 0
line_newlines [] e = refl
line_newlines (b ∷ bs) e =
    let parts = and_parts (not (b == 10)) (is_line bs) e in
    let here = none_at (b == 10) parts.0 in
    let more = line_newlines bs parts.1 in
    omega arith

digits_newlines : (ds : List ℕ) → AllDigits 10 ds → newlines ds ≡ 0
digits_newlines [] all = refl
digits_newlines (d ∷ ds) all =
    let range = digit_from_value d all.0 in
    let other : (d == 10) ≡ false = grind (arith, nat_tests) in
    let here : one_if (d == 10) ≡ 0 = ap one_if other in
    let more = digits_newlines ds all.1 in
    omega arith

-- a code's text without its last newline
abbrev front_text : List ℕ → ℕ → List ℕ
front_text code line = line_words ++ (decimal line ++ 10 ∷ code)

-- it has one newline
front_newlines : (code : List ℕ) (line : ℕ) → line < 2 ^ 64 → IsLine code → newlines (front_text code line) ≡ 1
front_newlines code line small one =
    let words : newlines line_words ≡ 0 = refl in
    let digits = digits_newlines (decimal line) (decimal_is_IsNumeral line small).0.1 in
    let rest = line_newlines code one in
    omega (arith, words, digits, rest, newlines_append line_words (decimal line ++ 10 ∷ code), newlines_append (decimal line) (10 ∷ code))

text_ends : (code : List ℕ) (line : ℕ) → code_text code line ≡ front_text code line ++ 10 ∷ []
text_ends code line =
    ap (λ s. line_words ++ s) (sym (append_assoc (decimal line) (10 ∷ code) (10 ∷ []))) ∙ sym (append_assoc line_words (decimal line ++ 10 ∷ code) (10 ∷ []))

-- and the text has two
text_newlines : (code : List ℕ) (line : ℕ) → line < 2 ^ 64 → IsLine code → newlines (code_text code line) ≡ 2
text_newlines code line small one =
    let front = front_newlines code line small one in
    omega (arith, ap newlines (text_ends code line), newlines_append (front_text code line) (10 ∷ []), front)

nothing_behind : (xs ys : List ℕ) → xs ++ ys ≡ [] → ys ≡ []
nothing_behind [] ys e = e
nothing_behind (x ∷ xs) ys e = absurd (cc)

-- a front of a text and its last byte is all of it, or has no more newlines than the text
front_of : (xs ys zs : List ℕ) (z : ℕ) → xs ++ ys ≡ zs ++ z ∷ [] → (ys ≡ []) ⊎ (newlines xs ≤ newlines zs)
front_of [] ys zs z e = inr (omega arith)
front_of (x ∷ xs) ys [] z e = let rest : xs ++ ys ≡ [] = cc in inl (nothing_behind xs ys rest)
front_of (x ∷ xs) ys (w ∷ zs) z e =
    let same : x ≡ w = cc in
    let rest : xs ++ ys ≡ zs ++ z ∷ [] = cc in
    let here : one_if (x == 10) ≡ one_if (w == 10) = ap (λ (b : ℕ). one_if (b == 10)) same in
    elim (front_of xs ys zs z rest) [
      | inl none ↦ inl none
      | inr fewer ↦ inr (omega arith)
    ]

-- no code's text is a proper front of another
pub no_front : (a b front rest : List ℕ) (k n : ℕ) → k < 2 ^ 64 → n < 2 ^ 64 → IsLine a → IsLine b
    → front ++ rest ≡ code_text a k → front ≡ code_text b n → rest ≡ []
no_front a b front rest k n small small' one one' all is =
    elim (front_of front rest (front_text a k) 10 (all ∙ text_ends a k)) [
      | inl none ↦ none
      | inr fewer ↦ absurd (omega (arith, fewer, front_newlines a k small one, ap newlines is, text_newlines b n small' one'))
    ]
