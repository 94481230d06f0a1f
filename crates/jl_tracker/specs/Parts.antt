-- A line without the blanks at its ends, and its parts between colons.
use Rattle.std.specs.Prelude.{◌≡◌, ℕ, List, [], ◌∷◌, Bool, true, ◌&&◌, ◌||◌, nat_eq, cond}
use Rattle.std.specs.List.{list_any, list_all}

-- a space, a tab or a carriage return
abbrev pub is_blank : ℕ → Bool
is_blank b = nat_eq b 32 || (nat_eq b 9 || nat_eq b 13)

abbrev pub is_colon : ℕ → Bool
is_colon b = nat_eq b 58

abbrev pub has_colon : List ℕ → Bool
has_colon bytes = list_any is_colon bytes

-- the bytes without the blanks before the first that isn't one
abbrev pub strip_front : List ℕ → List ℕ
strip_front [] = []
strip_front (b ∷ bs) = cond (is_blank b) (strip_front bs) (b ∷ bs)

-- the bytes without the blanks behind the last that isn't one
abbrev pub strip_end : List ℕ → List ℕ
strip_end [] = []
strip_end (b ∷ bs) = cond (list_all is_blank (b ∷ bs)) [] (b ∷ strip_end bs)

-- what stands before the first colon, and behind it
abbrev pub before_first : List ℕ → List ℕ
before_first [] = []
before_first (b ∷ bs) = cond (is_colon b) [] (b ∷ before_first bs)

abbrev pub behind_first : List ℕ → List ℕ
behind_first [] = []
behind_first (b ∷ bs) = cond (is_colon b) bs (behind_first bs)

-- what stands before the last colon, and behind it
abbrev pub before_last : List ℕ → List ℕ
before_last [] = []
before_last (b ∷ bs) = cond (has_colon bs) (b ∷ before_last bs) (cond (is_colon b) [] (b ∷ bs))

abbrev pub behind_last : List ℕ → List ℕ
behind_last [] = []
behind_last (b ∷ bs) = cond (has_colon bs) (behind_last bs) (cond (is_colon b) bs [])

-- a line without the blanks at both its ends
abbrev pub body_of : List ℕ → List ℕ
body_of line = strip_end (strip_front line)

-- the bytes before a colon and behind it, of which it is the first
pub record CutsFirst (bytes before behind : List ℕ) : Type 0 where
  pub there : has_colon bytes ≡ true
  pub before_is : before ≡ before_first bytes
  pub behind_is : behind ≡ behind_first bytes

-- the bytes before a colon and behind it, of which it is the last
pub record CutsLast (bytes before behind : List ℕ) : Type 0 where
  pub there : has_colon bytes ≡ true
  pub before_is : before ≡ before_last bytes
  pub behind_is : behind ≡ behind_last bytes

-- the command stands before the first colon, the kind behind the last one, and the name between them; there are at least two colons
pub record Splits (body command name kind : List ℕ) : Type 0 where
  pub one : has_colon body ≡ true
  pub two : has_colon (behind_first body) ≡ true
  pub command_is : command ≡ before_first body
  pub name_is : name ≡ before_last (behind_first body)
  pub kind_is : kind ≡ behind_last (behind_first body)

-- whether there are two colons
abbrev pub has_parts : List ℕ → Bool
has_parts body = has_colon body && has_colon (behind_first body)
