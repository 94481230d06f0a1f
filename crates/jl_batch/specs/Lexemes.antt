-- The lexemes of a text: numbers of 1 to 18 digits, `n_jobs`, `+`, `-`, `*`, `//`, `%` and brackets, with blanks between.
use Rattle.std.specs.Prelude.{◌≡◌, ℕ, pos, nat_eq, nat_le, if◌then◌else◌, List, [], ◌∷◌, Option, Some, None, option_map, take, drop, codes}
use Rattle.std.specs.List.{prefix_len, starts_with}
use Rattle.std.specs.Char.{is_ascii_digit}
use Rattle.jl_numbers.specs.Digits.{decimal}
use Rattle.jl_batch.specs.declared.lexer.TheConstants.{MOST_DIGITS}
use Rattle.jl_batch.specs.declared.arithmetic.Operator.TheVariants.{Plus, Minus, Times, Over, Modulo}
use Rattle.jl_batch.specs.declared.lexer.Lexeme.{Lexeme}
use Rattle.jl_batch.specs.declared.lexer.Lexeme.TheVariants.{Whole, Jobs, Infix, Opening, Closing}

-- a number of the first n bytes, which are digits, and what stands behind it
abbrev pub whole_of : ℕ → List ℕ → Option (Lexeme × List ℕ)
whole_of n text = if nat_le n MOST_DIGITS then Some (Whole (pos (decimal (take n text))), drop n text) else None

-- as many digits as there are
abbrev pub whole_at : List ℕ → Option (Lexeme × List ℕ)
whole_at text = whole_of (prefix_len is_ascii_digit text) text

-- `n_jobs`
unfoldable pub jobs_word : List ℕ
jobs_word = codes "n_jobs"

abbrev pub jobs_at : List ℕ → Option (Lexeme × List ℕ)
jobs_at text = if starts_with nat_eq text jobs_word then Some (Jobs, drop 6 text) else None

-- the second slash of `//`
abbrev pub over_at : List ℕ → Option (Lexeme × List ℕ)
over_at [] = None
over_at (b ∷ bs) = if nat_eq b 47 then Some (Infix Over, bs) else None

-- a lexeme of one byte: `+`, `-`, `*`, `%`, `(` or `)`
abbrev pub mark_of : ℕ → Option Lexeme
mark_of b =
    if nat_eq b 43 then Some (Infix Plus) else (if nat_eq b 45 then Some (Infix Minus) else (if nat_eq b 42 then Some (Infix Times) else
    (if nat_eq b 37 then Some (Infix Modulo) else (if nat_eq b 40 then Some Opening else (if nat_eq b 41 then Some Closing else None)))))

-- the lexeme at the front of a text, and what stands behind it
abbrev pub front_lexeme : List ℕ → Option (Lexeme × List ℕ)
front_lexeme [] = None
front_lexeme (b ∷ bs) =
    if is_ascii_digit b then whole_at (b ∷ bs) else (if nat_eq b 110 then jobs_at (b ∷ bs) else
    (if nat_eq b 47 then over_at bs else option_map (λ s. (s, bs)) (mark_of b)))

-- a text without the blanks at its front
abbrev pub without_blanks : List ℕ → List ℕ
without_blanks [] = []
without_blanks (b ∷ bs) = if nat_eq b 32 then without_blanks bs else b ∷ bs

-- the lexemes of a text: the one at its front, and those of what stands behind it and blanks
pub data HasLexemes : List ℕ → List Lexeme → Type 0 where
  last : {text : List ℕ} {s : Lexeme} → front_lexeme text ≡ Some (s, []) → HasLexemes text (s ∷ [])
  more : {text rest : List ℕ} {s : Lexeme} {ss : List Lexeme} → front_lexeme text ≡ Some (s, rest) → HasLexemes (without_blanks rest) ss → HasLexemes text (s ∷ ss)
