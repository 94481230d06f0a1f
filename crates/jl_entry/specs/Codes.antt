-- The text of `func_code.py`, and how it is compared.
use Rattle.std.specs.Prelude.{◌≡◌, ℕ, Bool, if◌then◌else◌, ◌&&◌, ◌==◌, nat_le, List, [], ◌∷◌, ◌++◌, length, take, drop, decimal, codes, bytes_eq}
use Rattle.std.specs.Char.{is_ascii_digit}
use Rattle.std.specs.List.{before_first, after_first, list_all}

-- `# first line: `
abbrev pub line_words : List ℕ
line_words = codes "# first line: "

-- the text of `func_code.py`: the line's number in the first line, then the code, each with a newline
abbrev pub code_text : List ℕ → ℕ → List ℕ
code_text code line = line_words ++ (decimal line ++ 10 ∷ (code ++ 10 ∷ []))

-- 1 to 20 digits
abbrev pub is_line_number : List ℕ → Bool
is_line_number digits = nat_le 1 (length digits) && (nat_le (length digits) 20 && list_all is_ascii_digit digits)

-- a line that says which line of its module the code begins at: `# first line: ` and such a number
abbrev pub is_number_line : List ℕ → Bool
is_number_line line = bytes_eq (take 14 line) line_words && is_line_number (drop 14 line)

-- the bytes without a first line that is one
abbrev pub without_number_line : List ℕ → List ℕ
without_number_line bytes = if is_number_line (before_first (λ b. b == 10) bytes) then after_first (λ b. b == 10) bytes else bytes

-- the bytes are those of a code, whatever line its module had it at
abbrev pub IsSameCode : List ℕ → List ℕ → Type 0
IsSameCode code bytes = without_number_line bytes ≡ code ++ 10 ∷ []
