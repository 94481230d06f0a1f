-- How a quoted text is read, byte by byte.
use Rattle.std.proofs.Common.{◌≡◌, ℕ, suc, ◌+◌, ◌<◌, Bool, true, false, List, [], ◌∷◌, ◌++◌, length, get_or, drop, drop-cons, add-one, Option, Some, None, refl, sym, ap, ◌∙◌, append_assoc}
use Rattle.std.specs.Str.{is_utf8, IsUtf8}
use Rattle.std.proofs.lemmas.Str.{IsUtf8-from_is_utf8, is_utf8-from_IsUtf8}
use Rattle.jl_lexer.specs.Words.{onto_rest, unquoted, if_text, quoted_in, text_in}
use Rattle.jl_lexer.specs.Constants.{behind_bytes}

longer : (out : List ℕ) (c : ℕ) (o : Option (List ℕ)) → behind_bytes (out ++ c ∷ []) o ≡ behind_bytes out (onto_rest (Some c) o)
longer out c None = refl
longer out c (Some s) = ap Some (append_assoc out (c ∷ []) s)

-- one byte more of the text
pub byte_on : (bytes out more : List ℕ) (escaped : Bool) (i c : ℕ) (r : Option (List ℕ)) → i < length bytes → ((rest : List ℕ) → unquoted escaped (get_or bytes i 0 ∷ rest) ≡ onto_rest (Some c) (unquoted false rest)) → more ≡ out ++ c ∷ [] → behind_bytes out (unquoted escaped (drop i bytes)) ≡ r → behind_bytes more (unquoted false (drop (i + 1) bytes)) ≡ r
byte_on bytes out more escaped i c r h step e before =
    rw (add-one i) (ap (λ s. behind_bytes s (unquoted false (drop (suc i) bytes))) e
    ∙ longer out c (unquoted false (drop (suc i) bytes))
    ∙ ap (behind_bytes out) (sym (step (drop (suc i) bytes)) ∙ sym (ap (unquoted escaped) (drop-cons bytes i 0 h)))
    ∙ before)

-- a `\` goes before a byte
pub escape_on : (bytes out more : List ℕ) (escaped : Bool) (i : ℕ) (r : Option (List ℕ)) → i < length bytes → ((rest : List ℕ) → unquoted escaped (get_or bytes i 0 ∷ rest) ≡ unquoted true rest) → more ≡ out → behind_bytes out (unquoted escaped (drop i bytes)) ≡ r → behind_bytes more (unquoted true (drop (i + 1) bytes)) ≡ r
escape_on bytes out more escaped i r h step e before =
    rw (add-one i) (ap (λ s. behind_bytes s (unquoted true (drop (suc i) bytes))) e
    ∙ ap (behind_bytes out) (sym (step (drop (suc i) bytes)) ∙ sym (ap (unquoted escaped) (drop-cons bytes i 0 h)))
    ∙ before)

utf8_by : (s : List ℕ) (b : Bool) → is_utf8 s ≡ b → (IsUtf8 s → ⊥) → is_utf8 s ≡ false
utf8_by s true e h = absurd (h (IsUtf8-from_is_utf8 s e))
utf8_by s false e h = e

-- what is no text is told to be none
pub not_utf8 : (s : List ℕ) → (IsUtf8 s → ⊥) → is_utf8 s ≡ false
not_utf8 s h = utf8_by s (is_utf8 s) refl h

pub text_good : (w s t : List ℕ) → quoted_in w ≡ Some s → IsUtf8 s → t ≡ s → Some t ≡ text_in w
text_good w s t e h same = ap Some same ∙ sym (ap if_text e ∙ rw (is_utf8-from_IsUtf8 s h))

pub text_bad : (w s : List ℕ) → quoted_in w ≡ Some s → (IsUtf8 s → ⊥) → None ≡ text_in w
text_bad w s e h = sym (ap if_text e ∙ rw (not_utf8 s h))
