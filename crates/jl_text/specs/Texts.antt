-- The forms of small texts.
use Rattle.std.specs.Prelude.{ℕ, List, [], ◌∷◌, Bool, false, ◌&&◌, ◌||◌, nat_eq, nat_lt, nat_le, length, not}
use Rattle.std.specs.List.{list_all}
use Rattle.jl_text.specs.declared.limits.TheConstants.{MOST_NAME_BYTES, MOST_TOKEN_BYTES}

-- a lower-case letter or a digit
abbrev pub is_token_byte : ℕ → Bool
is_token_byte b = (nat_le 97 b && nat_le b 122) || (nat_le 48 b && nat_le b 57)

-- 1 to 48 of these
abbrev pub is_token : List ℕ → Bool
is_token t = nat_lt 0 (length t) && nat_le (length t) MOST_TOKEN_BYTES && list_all is_token_byte t

-- a digit
abbrev pub is_digit_byte : ℕ → Bool
is_digit_byte b = nat_le 48 b && nat_le b 57

-- a letter
abbrev pub is_letter_byte : ℕ → Bool
is_letter_byte b = (nat_le 65 b && nat_le b 90) || (nat_le 97 b && nat_le b 122)

-- a letter, a digit or `_`
abbrev pub is_name_byte : ℕ → Bool
is_name_byte b = is_letter_byte b || (is_digit_byte b || nat_eq b 95)

-- a text whose first byte is a digit
abbrev pub begins_with_digit : List ℕ → Bool
begins_with_digit [] = false
begins_with_digit (b ∷ bs) = is_digit_byte b

-- 1 to 64 letters, digits and `_`, of which the first is no digit
abbrev pub is_name : List ℕ → Bool
is_name t = nat_lt 0 (length t) && (nat_le (length t) MOST_NAME_BYTES && (not (begins_with_digit t) && list_all is_name_byte t))
