-- Reading the lexemes of a text one after the other.
use Rattle.std.proofs.Common.{◌≡◌, ℕ, suc, arith, true, false, List, [], ◌∷◌, length, refl, sym, ap, ◌∙◌, subst}
use Rattle.std.specs.Prelude.{ℤ, pos, Option, Some, None, IfSome, option_and_then, MatchOption, nat_eq}
use Rattle.std.proofs.lemmas.Option.{none-some, some_pair_parts}
use Rattle.std.proofs.lemmas.Bool.Decides.{nat_tests}
use Rattle.jl_batch.specs.declared.lexer.Lexeme.{Lexeme}
use Rattle.jl_batch.specs.declared.parser.Reader.{Reader}
use Rattle.jl_batch.specs.Parser.{read_lexemes, started, step, value_at_end}
use Rattle.jl_batch.specs.Lexemes.{front_lexeme, without_blanks, HasLexemes, last, more}
use Rattle.jl_batch.specs.Windows.{IsWorth, all_word}
use Rattle.jl_batch.proofs.Completeness.{complete}
use Rattle.jl_batch.proofs.Soundness.{sound}

-- what a reader has read of a text, and what is left
pub record Follows (n : ℤ) (text left : List ℕ) (r : Reader) : Type 0 where
  pub onward : (ss : List Lexeme) → HasLexemes text ss → (ss' : List Lexeme) × HasLexemes left ss' × (read_lexemes n started ss ≡ read_lexemes n r ss')
  pub back : (ss' : List Lexeme) → HasLexemes left ss' → (ss : List Lexeme) × HasLexemes text ss × (read_lexemes n started ss ≡ read_lexemes n r ss')

pub follows_start : (n : ℤ) (text : List ℕ) (r : Reader) → r ≡ started → Follows n text text r
follows_start n text r e = record { onward = λ ss h. (ss, h, ap (λ r'. read_lexemes n r' ss) (sym e)); back = λ ss h. (ss, h, ap (λ r'. read_lexemes n r' ss) (sym e)) }

-- the lexemes of a text with this lexeme at its front
front_lexemes : {P : Type 0} {left : List ℕ} {ss : List Lexeme} → HasLexemes left ss → (s : Lexeme) (rest : List ℕ) → front_lexeme left ≡ Some (s, rest) →
    (rest ≡ [] → ss ≡ s ∷ [] → P) → ((ts : List Lexeme) → HasLexemes (without_blanks rest) ts → ss ≡ s ∷ ts → P) → P
front_lexemes (last {s = a} e) s rest f k l =
    let parts : (a ≡ s) × ([] ≡ rest) = some_pair_parts a s [] rest (sym e ∙ f) in
    k (sym parts.1) (ap (λ x. x ∷ []) parts.0)
front_lexemes (more {rest = behind} {s = a} {ss = ts} e h) s rest f k l =
    let parts : (a ≡ s) × (behind ≡ rest) = some_pair_parts a s behind rest (sym e ∙ f) in
    let P : List ℕ → Type 0 = λ q. HasLexemes (without_blanks q) ts in
    l ts (subst P parts.1 h) (ap (λ x. x ∷ ts) parts.0)

nothing_spelled : {ss : List Lexeme} → HasLexemes [] ss → ⊥
nothing_spelled (last {s = a} e) = none-some (a, []) e
nothing_spelled (more {rest = behind} {s = a} e h) = none-some (a, behind) e

no_lexemes : {left : List ℕ} {ss : List Lexeme} → HasLexemes left ss → front_lexeme left ≡ None → ⊥
no_lexemes (last {s = a} e) f = none-some (a, []) (sym f ∙ e)
no_lexemes (more {rest = behind} {s = a} e h) f = none-some (a, behind) (sym f ∙ e)

pub no_front : (n : ℤ) (text left : List ℕ) (r : Reader) → Follows n text left r → front_lexeme left ≡ None → (ss : List Lexeme) → HasLexemes text ss → None ≡ read_lexemes n started ss
no_front n text left r f e ss h = absurd (no_lexemes (f.onward ss h).1 e)

one_step : (n : ℤ) (r r' : Reader) (s : Lexeme) (ss ts : List Lexeme) → ss ≡ s ∷ ts → step n r s ≡ Some r' → read_lexemes n r ss ≡ read_lexemes n r' ts
one_step n r r' s ss ts e stepped = ap (λ q. read_lexemes n r q) e ∙ ap (λ o. option_and_then (λ q. read_lexemes n q ts) o) stepped

stuck : (n : ℤ) (r : Reader) (s : Lexeme) (ss ts : List Lexeme) → ss ≡ s ∷ ts → step n r s ≡ None → None ≡ read_lexemes n r ss
stuck n r s ss ts e stepped = sym (ap (λ q. read_lexemes n r q) e ∙ ap (λ o. option_and_then (λ q. read_lexemes n q ts) o) stepped)

pub no_step : (n : ℤ) (text left : List ℕ) (r : Reader) (s : Lexeme) (rest : List ℕ) → Follows n text left r → front_lexeme left ≡ Some (s, rest) → step n r s ≡ None → (ss : List Lexeme) → HasLexemes text ss → None ≡ read_lexemes n started ss
no_step n text left r s rest f front stepped ss h =
    let led = f.onward ss h in
    front_lexemes led.1 s rest front (λ _ e. stuck n r s led.0 [] e stepped ∙ sym led.2) (λ ts _ e. stuck n r s led.0 ts e stepped ∙ sym led.2)

pub follows_next : (n : ℤ) (text left : List ℕ) (r r' : Reader) (s : Lexeme) (rest : List ℕ) → Follows n text left r → front_lexeme left ≡ Some (s, rest) → (rest ≡ [] → ⊥) → step n r s ≡ Some r' → Follows n text (without_blanks rest) r'
follows_next n text left r r' s rest f front some stepped = record {
  onward = λ ss h. let led = f.onward ss h in
      front_lexemes led.1 s rest front (λ none _. absurd (some none)) (λ ts has e. (ts, has, led.2 ∙ one_step n r r' s led.0 ts e stepped));
  back = λ ts h. let led = f.back (s ∷ ts) (more front h) in (led.0, led.1, led.2 ∙ one_step n r r' s (s ∷ ts) ts refl stepped);
}

pub finish_only : (n : ℤ) (text left : List ℕ) (r r' : Reader) (s : Lexeme) (rest : List ℕ) → Follows n text left r → front_lexeme left ≡ Some (s, rest) → rest ≡ [] → step n r s ≡ Some r' → (ss : List Lexeme) → HasLexemes text ss → value_at_end r' ≡ read_lexemes n started ss
finish_only n text left r r' s rest f front none stepped ss h =
    let led = f.onward ss h in
    let P : List ℕ → Type 0 = λ q. (ts : List Lexeme) → HasLexemes (without_blanks q) ts → ⊥ in
    let nothing : (ts : List Lexeme) → HasLexemes (without_blanks rest) ts → ⊥ = subst P (sym none) (λ ts has. nothing_spelled has) in
    front_lexemes led.1 s rest front (λ _ e. sym (led.2 ∙ one_step n r r' s led.0 [] e stepped)) (λ ts has e. absurd (nothing ts has))

pub finish_some : (n : ℤ) (text left : List ℕ) (r r' : Reader) (s : Lexeme) (rest : List ℕ) → Follows n text left r → front_lexeme left ≡ Some (s, rest) → rest ≡ [] → step n r s ≡ Some r' → (v : ℤ) → value_at_end r' ≡ Some v → (ss : List Lexeme) × HasLexemes text ss × (read_lexemes n started ss ≡ Some v)
finish_some n text left r r' s rest f front none stepped v e =
    let P : List ℕ → Type 0 = λ q. front_lexeme left ≡ Some (s, q) in
    let led = f.back (s ∷ []) (last (subst P none front)) in
    (led.0, led.1, led.2 ∙ one_step n r r' s (s ∷ []) [] refl stepped ∙ e)

-- `all` is no expression
pub all_unworthy : (text : List ℕ) (jobs : ℕ) (v : ℤ) → text ≡ all_word → IsWorth text jobs v → ⊥
unfolding all_word
all_unworthy text jobs v e h =
    let P : List ℕ → Type 0 = λ q. HasLexemes q h.0 in
    no_lexemes (subst P e h.2) refl

pub worth_found : (text : List ℕ) (jobs : ℕ) (v : ℤ) → (ss : List Lexeme) × HasLexemes text ss × (read_lexemes (pos jobs) started ss ≡ Some v) → IsWorth text jobs v
worth_found text jobs v h = let read = sound (pos jobs) h.0 v h.2 in (h.0, read.0, h.1, read.1, read.2)

pub worth_only : (text : List ℕ) (jobs : ℕ) (v : ℤ) (o : Option ℤ) → ((ss : List Lexeme) → HasLexemes text ss → o ≡ read_lexemes (pos jobs) started ss) → IsWorth text jobs v → o ≡ Some v
worth_only text jobs v o only h = only h.0 h.2 ∙ complete (pos jobs) h.0 h.1 v h.3 h.4

pub worth_cases : (text : List ℕ) (jobs : ℕ) (o : Option ℤ) → IfSome o (λ v. (ss : List Lexeme) × HasLexemes text ss × (read_lexemes (pos jobs) started ss ≡ Some v)) → ((ss : List Lexeme) → HasLexemes text ss → o ≡ read_lexemes (pos jobs) started ss) → MatchOption o ((v : ℤ) → IsWorth text jobs v → ⊥) (λ v. IsWorth text jobs v)
worth_cases text jobs None found only = λ v h. none-some v (worth_only text jobs v None only h)
worth_cases text jobs (Some v) found only = worth_found text jobs v found

pub finish_found : (n : ℤ) (text left : List ℕ) (r r' : Reader) (s : Lexeme) (rest : List ℕ) → Follows n text left r → front_lexeme left ≡ Some (s, rest) → rest ≡ [] → step n r s ≡ Some r' → (o : Option ℤ) → o ≡ value_at_end r' → IfSome o (λ v. (ss : List Lexeme) × HasLexemes text ss × (read_lexemes n started ss ≡ Some v))
finish_found n text left r r' s rest f front none stepped None e = tt
finish_found n text left r r' s rest f front none stepped (Some v) e = finish_some n text left r r' s rest f front none stepped v (sym e)

test_holds : (a b : ℕ) → true ≡ nat_eq a b → a ≡ b
test_holds a b e = grind (arith, nat_tests)

test_fails : (a b : ℕ) → false ≡ nat_eq a b → a ≡ b → ⊥
test_fails a b e same = grind (arith, nat_tests)

pub empty_rest : (xs : List ℕ) → true ≡ nat_eq (length xs) 0 → xs ≡ []
empty_rest [] e = refl
empty_rest (x ∷ xs) e = let none : suc (length xs) ≡ 0 = test_holds (suc (length xs)) 0 e in absurd (omega arith)

pub some_rest : (xs : List ℕ) → false ≡ nat_eq (length xs) 0 → xs ≡ [] → ⊥
some_rest xs e none = test_fails (length xs) 0 e (ap length none)
