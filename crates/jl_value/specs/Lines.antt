-- What is one line of a text.
use Rattle.std.specs.Prelude.{ℕ, Bool, not, ◌==◌, List, IsTrue}
use Rattle.std.specs.List.{list_all}

-- whether no newline stands in a text
abbrev pub is_line : List ℕ → Bool
is_line s = list_all (λ b. not (b == 10)) s

-- the text is one line
abbrev pub IsLine : List ℕ → Type 0
IsLine s = IsTrue (is_line s)
