-- The definitions `def NAME(NAME, ..): EXPRESSION`, and the faults of a line.
use Rattle.std.specs.Prelude.{ℕ, Bool, true, false, not, ◌&&◌, ◌||◌, nat_lt, if◌then◌else◌, List, [], ◌∷◌, ◌++◌, Option, Some, None}
use Rattle.std.specs.List.{list_any}
use Rattle.std.specs.Str.{bytes_eq}
use Rattle.jl_text.specs.declared.limits.TheConstants.{MOST_BRACKETS}
use Rattle.jl_value.specs.declared.library.ModuleFaultKind.{ModuleFaultKind}
use Rattle.jl_value.specs.declared.library.ModuleFaultKind.TheVariants.{BadLine, BadName, TooDeep}
use Rattle.jl_lexer.specs.Signs.{signs, begins_word}
use Rattle.jl_lexer.specs.Words.{def_word, is_identifier}
use Rattle.jl_lexer.specs.Marks.{is_mark}
use Rattle.jl_lexer.specs.Trees.{Expression, tall, leaf, bracketed, before, between, choice, index, call, span, list, each, filtered, table, Members, no_members, member, Entries, no_entries, entry, height}
use Rattle.jl_grammar.specs.Parser.{Read, read, broken, nested_deep, read_signs}

-- a word that is known, if it is a name
abbrev pub is_known : List (List ℕ) → List ℕ → Bool
is_known ns w = not (is_identifier w) || list_any (bytes_eq w) ns

-- whether each name of an expression is among these, or is the variable of a list in whose member or condition it stands
abbrev mutual
  pub are_known : List (List ℕ) → Expression → Bool
  are_known ns tall = true
  are_known ns (leaf w) = is_known ns w
  are_known ns (bracketed e) = are_known ns e
  are_known ns (before p e) = are_known ns e
  are_known ns (between o a b) = are_known ns a && are_known ns b
  are_known ns (choice a c b) = are_known ns a && (are_known ns c && are_known ns b)
  are_known ns (index a i) = are_known ns a && are_known ns i
  are_known ns (call f e) = are_known ns e
  are_known ns (span a b) = are_known ns a && are_known ns b
  are_known ns (list ms) = members_known ns ms
  are_known ns (each e x a) = are_known ns a && are_known (x ∷ ns) e
  are_known ns (filtered e x a c) = are_known ns a && (are_known (x ∷ ns) c && are_known (x ∷ ns) e)
  are_known ns (table es) = entries_known ns es

  -- whether each name of the members of a list is known
  pub members_known : List (List ℕ) → Members → Bool
  members_known ns no_members = true
  members_known ns (member e ms) = are_known ns e && members_known ns ms

  -- whether each name of the members of a table is known
  pub entries_known : List (List ℕ) → Entries → Bool
  entries_known ns no_entries = true
  entries_known ns (entry k e es) = are_known ns e && entries_known ns es

-- whether one of the later names stands before
abbrev pub has_repeat : List (List ℕ) → List (List ℕ) → Bool
has_repeat earlier [] = false
has_repeat earlier (p ∷ ps) = list_any (bytes_eq p) earlier || has_repeat (earlier ++ p ∷ []) ps

-- what stands before the colon, and the signs behind it
pub record Heading : Type 0 where
  pub name : List ℕ
  pub parameters : List (List ℕ)
  pub body : List (List ℕ)

-- the parameters up to the closing bracket, behind those before, and the signs that follow
abbrev pub more_parameters : List (List ℕ) → List (List ℕ) → Option (List (List ℕ) × List (List ℕ))
more_parameters ps [] = None
more_parameters ps (s ∷ []) = if is_mark 41 s then Some (ps, []) else None
more_parameters ps (s ∷ w ∷ ws) = if is_mark 41 s then Some (ps, w ∷ ws) else (if is_mark 44 s && is_identifier w then more_parameters (ps ++ w ∷ []) ws else None)

-- the same, behind the opening bracket
abbrev pub parameters_in : List (List ℕ) → Option (List (List ℕ) × List (List ℕ))
parameters_in [] = None
parameters_in (w ∷ ws) = if is_mark 41 w then Some ([], ws) else (if is_identifier w then more_parameters (w ∷ []) ws else None)

-- the heading that a colon ends
abbrev pub body_behind : List ℕ → List (List ℕ) → List (List ℕ) → Option Heading
body_behind n ps [] = None
body_behind n ps (s ∷ ws) = if is_mark 58 s then Some (record { name = n; parameters = ps; body = ws }) else None

-- the heading of a name and parameters
abbrev pub with_parameters : List ℕ → Option (List (List ℕ) × List (List ℕ)) → Option Heading
with_parameters n None = None
with_parameters n (Some r) = body_behind n r.0 r.1

-- the heading at the front of signs: `def`, a name, an opening bracket, parameters and a colon
abbrev pub heading_in : List (List ℕ) → Option Heading
heading_in [] = None
heading_in (d ∷ []) = None
heading_in (d ∷ n ∷ []) = None
heading_in (d ∷ n ∷ o ∷ ws) = if bytes_eq d def_word && (is_identifier n && is_mark 40 o) then with_parameters n (parameters_in ws) else None

-- the heading of a line, before which nothing stands
abbrev pub heading_of : List ℕ → Option Heading
heading_of line = if begins_word line then heading_in (signs line) else None

-- what a line defines
pub record Definition : Type 0 where
  pub name : List ℕ
  pub parameters : List (List ℕ)
  pub body : Expression

-- a line that was read as a definition
pub data LineReading : Type 0 where
  bad : ModuleFaultKind → LineReading
  good : Definition → LineReading

-- a tree may be 128 high, no parameter stands twice, and each name is a parameter
abbrev pub judged : Heading → Expression → LineReading
judged h e = if nat_lt MOST_BRACKETS (height e) then bad TooDeep else (if has_repeat [] h.parameters || not (are_known h.parameters e) then bad BadName else good (record { name = h.name; parameters = h.parameters; body = e }))

-- a heading and what was read of its expression
abbrev pub with_body : Heading → Read → LineReading
with_body h broken = bad BadLine
with_body h nested_deep = bad TooDeep
with_body h (read e) = judged h e

-- a heading, where there is one, and its expression
abbrev pub with_heading : Option Heading → LineReading
with_heading None = bad BadLine
with_heading (Some h) = with_body h (read_signs h.body)

-- the definition that a line is, or its first fault
abbrev pub definition_in : List ℕ → LineReading
definition_in line = with_heading (heading_of line)
