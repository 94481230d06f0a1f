-- The lines of bytes.
use Rattle.std.specs.Prelude.{ℕ, List, [], ◌∷◌, Bool, cond, nat_eq}
use Rattle.std.specs.List.{list_any}

-- the byte that ends a line
abbrev pub is_newline : ℕ → Bool
is_newline b = nat_eq b 10

-- whether a line ends among the bytes
abbrev pub has_newline : List ℕ → Bool
has_newline bytes = list_any is_newline bytes

-- the first line with its newline; where there is no newline, all bytes
abbrev pub first_line : List ℕ → List ℕ
first_line [] = []
first_line (b ∷ bs) = b ∷ cond (is_newline b) [] (first_line bs)

-- what stands behind the first newline
abbrev pub behind_line : List ℕ → List ℕ
behind_line [] = []
behind_line (b ∷ bs) = cond (is_newline b) bs (behind_line bs)

-- what stands before the first newline: a line without its newline
abbrev pub body_of : List ℕ → List ℕ
body_of [] = []
body_of (b ∷ bs) = cond (is_newline b) [] (b ∷ body_of bs)

-- a byte before the first of these lines
abbrev pub put_before : ℕ → List (List ℕ) → List (List ℕ)
put_before b [] = (b ∷ []) ∷ []
put_before b (line ∷ lines) = (b ∷ line) ∷ lines

-- the lines, each with its newline; what stands behind the last newline is a line too, if anything does
abbrev pub lines_of : List ℕ → List (List ℕ)
lines_of [] = []
lines_of (b ∷ bs) = cond (is_newline b) ((b ∷ []) ∷ lines_of bs) (put_before b (lines_of bs))
