-- A library of sums, for tests: each line of a module is `NAME K`, and its code answers K plus the number of arguments.
use Rattle.std.specs.Prelude.{ℕ, suc, ◌^◌, ◌==◌, nat_lt, ℤ, pos, negsuc, ◌+ℤ◌, Bool, false, if◌then◌else◌, List, [], ◌∷◌, ◌++◌, length, Option, Some, None, is_some, option_map, bytes_eq}
use Rattle.std.specs.List.{slice_split, before_first, after_first, list_all}
use Rattle.std.specs.Char.{is_ascii_digit}
use Rattle.std.specs.Str.{is_utf8}
use Rattle.std.specs.Str.Parse.{signed_digits_value}
use Rattle.jl_text.specs.Texts.{is_name}
use Rattle.jl_value.specs.Tree.{Tree, whole}
use Rattle.jl_value.specs.Library.{Answer, value, error}
use Rattle.jl_value.specs.declared.library.TaskError.TheVariants.{BadKind, Overflow}
use Rattle.jl_value.specs.declared.library.ModuleFault.{ModuleFault}
use Rattle.jl_value.specs.declared.library.ModuleFaultKind.{ModuleFaultKind}
use Rattle.jl_value.specs.declared.library.ModuleFaultKind.TheVariants.{BadLine, Twice}

-- ---- a line

-- digits, the first of which isn't 0
abbrev pub is_positive : List ℕ → Bool
is_positive [] = false
is_positive (d ∷ ds) = if d == 48 then false else list_all is_ascii_digit (d ∷ ds)

-- `0`, or such digits, maybe behind a `-`
abbrev pub is_decimal : List ℕ → Bool
is_decimal [] = false
is_decimal (c ∷ cs) = if c == 48 then length cs == 0 else if c == 45 then is_positive cs else is_positive (c ∷ cs)

-- a signed number of 64 bits
abbrev pub is_whole : ℤ → Bool
is_whole (pos n) = nat_lt n (2 ^ 63)
is_whole (negsuc n) = nat_lt n (2 ^ 63)

-- the number that a text spells
abbrev pub number_of : List ℕ → Option ℤ
number_of s = if is_decimal s then (if is_whole (signed_digits_value 10 s) then Some (signed_digits_value 10 s) else None) else None

-- the name and the number of a line `NAME K`, which one space parts
abbrev pub definition_of : List ℕ → Option (List ℕ × ℤ)
definition_of l = if is_name (before_first (λ b. b == 32) l) then option_map (λ z. (before_first (λ b. b == 32) l, z)) (number_of (after_first (λ b. b == 32) l)) else None

-- whether a definition has the name
abbrev pub name_is : List ℕ → Option (List ℕ × ℤ) → Bool
name_is n None = false
name_is n (Some d) = bytes_eq d.0 n

-- whether a line defines a name
abbrev pub defines : List ℕ → List ℕ → Bool
defines l n = name_is n (definition_of l)

-- ---- a module

-- an empty text behind the last newline is no line
abbrev pub without_empty_last : List (List ℕ) → List (List ℕ)
without_empty_last [] = []
without_empty_last (l ∷ []) = if length l == 0 then [] else l ∷ []
without_empty_last (l ∷ k ∷ ls) = l ∷ without_empty_last (k ∷ ls)

-- the lines of a text, which newlines end
abbrev pub tiny_lines : List ℕ → List (List ℕ)
tiny_lines m = without_empty_last (slice_split (λ b. b == 10) m)

-- the first of the lines that defines the name
abbrev pub code_in : List (List ℕ) → List ℕ → Option (List ℕ)
code_in [] n = None
code_in (l ∷ ls) n = if defines l n then Some l else code_in ls n

-- its number, where the first of the lines has the number given
abbrev pub line_in : ℕ → List (List ℕ) → List ℕ → ℕ
line_in at [] n = at
line_in at (l ∷ ls) n = if defines l n then at else line_in (suc at) ls n

-- what a module says of a name
abbrev pub tiny_code : List ℕ → List ℕ → Option (List ℕ)
tiny_code m n = code_in (tiny_lines m) n

abbrev pub tiny_line : List ℕ → List ℕ → ℕ
tiny_line m n = line_in 1 (tiny_lines m) n

-- why a definition can't follow the lines before it
abbrev pub kind_among : List (List ℕ) → Option (List ℕ × ℤ) → Option ModuleFaultKind
kind_among before None = Some BadLine
kind_among before (Some d) = if is_some (code_in before d.0) then Some Twice else None

-- why a line can't follow the lines before it: it is no definition, or its name is defined there
abbrev pub line_fault : List (List ℕ) → List ℕ → Option ModuleFaultKind
line_fault before l = kind_among before (definition_of l)

-- the fault of the line with the number given, or a later one
abbrev pub or_later : ℕ → Option ModuleFaultKind → Option ModuleFault → Option ModuleFault
or_later at None later = later
or_later at (Some k) later = Some (record { line = at; kind = k })

-- the first fault of the lines that follow those before, where the first of them has the number given
abbrev pub fault_in : List (List ℕ) → ℕ → List (List ℕ) → Option ModuleFault
fault_in before at [] = None
fault_in before at (l ∷ ls) = or_later at (line_fault before l) (fault_in (before ++ l ∷ []) (suc at) ls)

-- the first fault of a module; a line whose bytes are no text is no definition
abbrev pub tiny_fault : List ℕ → Option ModuleFault
tiny_fault m = fault_in [] 1 (tiny_lines m)

-- a line's bytes, or none of them where they are no text
abbrev pub as_text : List ℕ → List ℕ
as_text l = if is_utf8 l then l else []

-- ---- a call

-- the sum, where 64 bits hold it
abbrev pub sum_answer : ℤ → Answer
sum_answer z = if is_whole z then value (whole z) else error Overflow

-- by the definition that the code is
abbrev pub answer_by : Option (List ℕ × ℤ) → ℕ → Answer
answer_by None count = error BadKind
answer_by (Some d) count = sum_answer (d.1 +ℤ pos count)

-- the number of the code plus the number of arguments
abbrev pub tiny_answer : List ℕ → List (List ℕ × Tree) → Answer
tiny_answer c ps = answer_by (definition_of c) (length ps)
