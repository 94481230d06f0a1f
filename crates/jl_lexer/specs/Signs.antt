-- The signs of a line: words, taken as long as they can be, texts in quotes, and marks of one or two bytes. Spaces and tabs stand between.
use Rattle.std.specs.Prelude.{ℕ, zero, suc, Bool, true, false, ◌&&◌, ◌||◌, nat_le, nat_eq, if◌then◌else◌, List, [], ◌∷◌, take}
use Rattle.jl_text.specs.Texts.{is_name_byte}

-- a space or a tab
abbrev pub is_gap : ℕ → Bool
is_gap b = nat_eq b 32 || nat_eq b 9

abbrev pub is_digit : ℕ → Bool
is_digit b = nat_le 48 b && nat_le b 57

-- a character of a word: a letter, a digit or `_`
abbrev pub is_word_byte : ℕ → Bool
is_word_byte b = is_name_byte b

-- whether a text begins with a word
abbrev pub begins_word : List ℕ → Bool
begins_word [] = false
begins_word (b ∷ bs) = is_word_byte b

-- how many bytes of a word a text begins with
abbrev pub word_run : List ℕ → ℕ
word_run [] = 0
word_run (b ∷ bs) = if is_word_byte b then suc (word_run bs) else 0

-- how many bytes there are up to the quote that closes, or all; the byte behind a `\` closes nothing
abbrev pub text_run : Bool → List ℕ → ℕ
text_run escaped [] = 0
text_run true (b ∷ bs) = suc (text_run false bs)
text_run false (b ∷ bs) = if nat_eq b 34 then 1 else suc (text_run (nat_eq b 92) bs)

-- `==`, `!=`, `<=`, `>=` and `//`
abbrev pub is_pair : ℕ → ℕ → Bool
is_pair b c = (nat_eq c 61 && (nat_eq b 61 || (nat_eq b 33 || (nat_eq b 60 || nat_eq b 62)))) || (nat_eq b 47 && nat_eq c 47)

abbrev pub mark_run : ℕ → List ℕ → ℕ
mark_run b [] = 0
mark_run b (c ∷ cs) = if is_pair b c then 1 else 0

-- how many bytes behind its first one a sign goes on
abbrev pub sign_run : ℕ → List ℕ → ℕ
sign_run b bs = if is_word_byte b then word_run bs else (if nat_eq b 34 then text_run false bs else mark_run b bs)

-- the signs of a text behind its first n bytes
abbrev pub signs_behind : ℕ → List ℕ → List (List ℕ)
signs_behind n [] = []
signs_behind (suc n) (b ∷ bs) = signs_behind n bs
signs_behind zero (b ∷ bs) = if is_gap b then signs_behind zero bs else (b ∷ take (sign_run b bs) bs) ∷ signs_behind (sign_run b bs) bs

abbrev pub signs : List ℕ → List (List ℕ)
signs s = signs_behind zero s
