-- The lines of a module, its faults and its functions.
use Rattle.std.specs.Prelude.{◌≡◌, ℕ, ◌+◌, Bool, true, false, ◌&&◌, ◌||◌, nat_eq, nat_lt, if◌then◌else◌, List, [], ◌∷◌, ◌++◌, length, Option, Some, None, option_map}
use Rattle.std.specs.Option.{option_map_or}
use Rattle.std.specs.List.{list_any, slice_split}
use Rattle.std.specs.Str.{bytes_eq, is_utf8}
use Rattle.jl_text.specs.declared.limits.TheConstants.{MOST_TEXT_BYTES}
use Rattle.jl_value.specs.declared.library.ModuleFault.{ModuleFault}
use Rattle.jl_value.specs.declared.library.ModuleFaultKind.{ModuleFaultKind}
use Rattle.jl_value.specs.declared.library.ModuleFaultKind.TheVariants.{BadLine, Twice, TooDeep, TooLarge}
use Rattle.jl_lexer.specs.Signs.{is_gap, signs, begins_word}
use Rattle.jl_lexer.specs.Words.{def_word, is_identifier}
use Rattle.jl_module.specs.Headings.{Definition, LineReading, bad, good, definition_in}

-- the lines, between newlines
abbrev pub lines : List ℕ → List (List ℕ)
lines m = slice_split (λ b. nat_eq b 10) m

-- a byte that is dropped at a line's end: a space, a tab or a carriage return
abbrev pub is_trailing : ℕ → Bool
is_trailing b = is_gap b || nat_eq b 13

-- a byte before what a line ends with
abbrev pub before_end : ℕ → List ℕ → List ℕ
before_end b [] = if is_trailing b then [] else b ∷ []
before_end b (c ∷ cs) = b ∷ c ∷ cs

-- a line without what is dropped at its end
abbrev pub trimmed : List ℕ → List ℕ
trimmed [] = []
trimmed (b ∷ bs) = before_end b (trimmed bs)

-- a blank line or a comment
abbrev pub is_remark : List ℕ → Bool
is_remark [] = true
is_remark (b ∷ bs) = nat_eq b 35

-- what a line is
pub data Line : Type 0 where
  remark : Line
  faulty : ModuleFaultKind → Line
  defines : List ℕ → Line

-- the line that a reading is
abbrev pub line_of : LineReading → Line
line_of (bad k) = faulty k
line_of (good d) = defines d.name

-- a fault of the signs before a byte that is not UTF-8: brackets that nest too deep are told, and else the line is bad
abbrev pub broken_kind : ModuleFaultKind → ModuleFaultKind
broken_kind TooDeep = TooDeep
broken_kind _ = BadLine

-- what is wrong with a line that is not UTF-8
abbrev pub broken_line : LineReading → ModuleFaultKind
broken_line (bad k) = broken_kind k
broken_line (good d) = BadLine

-- what a line is, without what is dropped at its end
abbrev pub read_line : List ℕ → Line
read_line l = if is_utf8 l then (if is_remark (trimmed l) then remark else line_of (definition_in (trimmed l))) else faulty (broken_line (definition_in (trimmed l)))

-- the first fault of a line and those behind it
abbrev pub fault_after_line : ℕ → List (List ℕ) → Line → (List (List ℕ) → Option ModuleFault) → Option ModuleFault
fault_after_line n names remark rest = rest names
fault_after_line n names (faulty k) rest = Some (record { line = n; kind = k })
fault_after_line n names (defines f) rest = if list_any (bytes_eq f) names then Some (record { line = n; kind = Twice }) else rest (names ++ f ∷ [])

-- the first fault of the lines from this number on, behind the definitions of these names
abbrev pub first_fault : ℕ → List (List ℕ) → List (List ℕ) → Option ModuleFault
first_fault n names [] = None
first_fault n names (l ∷ ls) = fault_after_line n names (read_line l) (λ more. first_fault (n + 1) more ls)

-- why a text is no module
abbrev pub fault_of : List ℕ → Option ModuleFault
fault_of m = if nat_lt MOST_TEXT_BYTES (length m) then Some (record { line = 1; kind = TooLarge }) else first_fault 1 [] (lines m)

-- whether signs begin with `def` and a name
abbrev pub defines_in : List ℕ → List (List ℕ) → Bool
defines_in name [] = false
defines_in name (d ∷ []) = false
defines_in name (d ∷ n ∷ ws) = bytes_eq d def_word && bytes_eq n name

-- whether a line begins the definition of a name
abbrev pub begins_definition : List ℕ → List ℕ → Bool
begins_definition name l = is_utf8 l && (begins_word l && defines_in name (signs l))

-- a definition that was found
pub record Found : Type 0 where
  pub code : List ℕ
  pub line : ℕ

-- the first definition of a name in the lines from this number on
abbrev pub find_from : ℕ → List ℕ → List (List ℕ) → Option Found
find_from n name [] = None
find_from n name (l ∷ ls) = if begins_definition name (trimmed l) then Some (record { code = trimmed l; line = n }) else find_from (n + 1) name ls

-- the first definition of a name
abbrev pub find : List ℕ → List ℕ → Option Found
find m name = if is_identifier name then find_from 1 name (lines m) else None

-- the code of a name, which is the line of its definition without what is dropped at its end
abbrev pub code_in : List ℕ → List ℕ → Option (List ℕ)
code_in m name = option_map (λ f. f.code) (find m name)

-- the number of that line, from 1
abbrev pub line_in : List ℕ → List ℕ → ℕ
line_in m name = option_map_or (λ f. f.line) (find m name) 0

-- a code is a definition of a name
pub record Defines (code name : List ℕ) : Type 0 where
  pub definition : Definition
  pub read : definition_in code ≡ good definition
  pub named : definition.name ≡ name
