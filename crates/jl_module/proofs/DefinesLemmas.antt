-- In a module without a fault the code of a name is a definition of that name.
use Rattle.std.proofs.Common.{◌≡◌, ℕ, ◌+◌, Bool, true, false, List, [], ◌∷◌, ◌++◌, refl, sym, ap, ◌∙◌, subst, true≢false, arith}
use Rattle.std.specs.Prelude.{◌&&◌, ◌||◌, nat_lt, nat_eq, if◌then◌else◌, length, Option, Some, None, option_map, not}
use Rattle.std.specs.List.{list_any}
use Rattle.std.specs.Str.{bytes_eq, is_utf8}
use Rattle.std.proofs.lemmas.Slice.Eq.{bytes_eq-Decides}
use Rattle.jl_value.specs.declared.library.ModuleFault.{ModuleFault}
use Rattle.jl_value.specs.declared.library.ModuleFaultKind.{ModuleFaultKind}
use Rattle.jl_value.specs.declared.library.ModuleFaultKind.TheVariants.{BadLine, BadName, TooDeep}
use Rattle.jl_lexer.specs.Signs.{signs, begins_word, is_word_byte}
use Rattle.jl_lexer.specs.Words.{def_word, is_identifier}
use Rattle.jl_lexer.specs.Marks.{is_mark}
use Rattle.jl_lexer.specs.Trees.{Expression, height}
use Rattle.jl_grammar.specs.Parser.{Read, read, broken, nested_deep, read_signs}
use Rattle.jl_text.specs.declared.limits.TheConstants.{MOST_TEXT_BYTES}
use Rattle.jl_module.specs.Headings.{Heading, Definition, LineReading, bad, good, has_repeat, are_known, judged, with_body, with_heading, heading_of, heading_in, with_parameters, parameters_in, body_behind, definition_in}
use Rattle.jl_module.specs.Modules.{lines, trimmed, is_remark, Line, remark, faulty, defines, line_of, broken_line, read_line, fault_after_line, first_fault, fault_of, defines_in, begins_definition, Found, find_from, find, code_in, Defines}

-- ---- the name of a heading

left_of : (a b : Bool) → (a && b) ≡ true → a ≡ true
left_of true b e = refl
left_of false b e = absurd (true≢false (sym e))

right_of : (a b : Bool) → (a && b) ≡ true → b ≡ true
right_of true b e = e
right_of false b e = absurd (true≢false (sym e))

-- a heading that is there has this name
abbrev IsCalled : List ℕ → Option Heading → Type 0
IsCalled n None = Unit {0}
IsCalled n (Some h) = h.name ≡ n

called_if : (b : Bool) (n : List ℕ) (o : Option Heading) → IsCalled n o → IsCalled n (if b then o else None)
called_if true n o h = h
called_if false n o h = tt

body_called : (n : List ℕ) (ps ws : List (List ℕ)) → IsCalled n (body_behind n ps ws)
body_called n ps [] = tt
body_called n ps (s ∷ ws) = called_if (is_mark 58 s) n _ refl

parameters_called : (n : List ℕ) (o : Option (List (List ℕ) × List (List ℕ))) → IsCalled n (with_parameters n o)
parameters_called n None = tt
parameters_called n (Some r) = body_called n r.0 r.1

heading_called : (n : List ℕ) (ws : List (List ℕ)) → defines_in n ws ≡ true → IsCalled n (heading_in ws)
heading_called n [] e = tt
heading_called n (d ∷ []) e = tt
heading_called n (d ∷ w ∷ []) e = tt
heading_called n (d ∷ w ∷ o ∷ ws) e =
    let same : w ≡ n = (bytes_eq-Decides w n).0 (right_of (bytes_eq d def_word) (bytes_eq w n) e) in
    called_if (bytes_eq d def_word && (is_identifier w && is_mark 40 o)) n _ (subst (λ (m : List ℕ). IsCalled m (with_parameters w (parameters_in ws))) same (parameters_called w (parameters_in ws)))

line_called : (n line : List ℕ) → defines_in n (signs line) ≡ true → IsCalled n (heading_of line)
line_called n line e = called_if (begins_word line) n _ (heading_called n (signs line) e)

-- ---- the name of a definition

abbrev IsOf : List ℕ → LineReading → Type 0
IsOf n (bad k) = Unit {0}
IsOf n (good d) = d.name ≡ n

of_if : (b : Bool) (n : List ℕ) (k : ModuleFaultKind) (r : LineReading) → IsOf n r → IsOf n (if b then bad k else r)
of_if true n k r h = tt
of_if false n k r h = h

judged_of : (h : Heading) (e : Expression) → IsOf h.name (judged h e)
judged_of h e = of_if (nat_lt 128 (height e)) h.name TooDeep _ (of_if (has_repeat [] h.parameters || not (are_known h.parameters e)) h.name BadName _ refl)

body_of : (h : Heading) (r : Read) → IsOf h.name (with_body h r)
body_of h broken = tt
body_of h nested_deep = tt
body_of h (read e) = judged_of h e

heading_named : (n : List ℕ) (o : Option Heading) → IsCalled n o → IsOf n (with_heading o)
heading_named n None h = tt
heading_named n (Some h) named = subst (λ (m : List ℕ). IsOf m (with_body h (read_signs h.body))) named (body_of h (read_signs h.body))

definition_named : (n line : List ℕ) → defines_in n (signs line) ≡ true → IsOf n (definition_in line)
definition_named n line e = heading_named n (heading_of line) (line_called n line e)

-- ---- a line that defines a name, where it has no fault

-- a line is no fault
abbrev IsSound : Line → Type 0
IsSound remark = Unit {0}
IsSound (faulty k) = ⊥
IsSound (defines f) = Unit {0}

sound_by : (k : Line) (n : ℕ) (names : List (List ℕ)) (rest : List (List ℕ) → Option ModuleFault) → fault_after_line n names k rest ≡ None → IsSound k
sound_by remark n names rest e = tt
sound_by (faulty k) n names rest e = absurd (cc)
sound_by (defines f) n names rest e = tt

defines_by : (r : LineReading) (code n : List ℕ) → definition_in code ≡ r → IsOf n r → IsSound (line_of r) → Defines code n
defines_by (bad k) code n is of' sound = absurd sound
defines_by (good d) code n is of' sound = record { definition = d; read = is; named = of' }

remark_by : (t : Bool) (b : ℕ) → nat_eq b 35 ≡ t → is_word_byte b ≡ true → t ≡ false
remark_by true b e word =
    let same : b ≡ 35 = grind arith in
    absurd (true≢false (sym (subst (λ k. is_word_byte k ≡ true) same word)))
remark_by false b e word = refl

remark_not : (l : List ℕ) → begins_word l ≡ true → is_remark l ≡ false
remark_not [] e = absurd (true≢false (sym e))
remark_not (b ∷ bs) e = remark_by (nat_eq b 35) b refl e

sound_line : (u r : Bool) (k : ModuleFaultKind) (p : LineReading) → r ≡ false → IsSound (if u then (if r then remark else line_of p) else faulty k) → IsSound (line_of p)
sound_line true true k p e h = absurd (cc)
sound_line true false k p e h = h
sound_line false r k p e h = absurd h

line_defines : (n l : List ℕ) → begins_definition n (trimmed l) ≡ true → IsSound (read_line l) → Defines (trimmed l) n
line_defines n l e sound =
    let rest = right_of (is_utf8 (trimmed l)) (begins_word (trimmed l) && defines_in n (signs (trimmed l))) e in
    let word = left_of (begins_word (trimmed l)) (defines_in n (signs (trimmed l))) rest in
    let there = right_of (begins_word (trimmed l)) (defines_in n (signs (trimmed l))) rest in
    defines_by (definition_in (trimmed l)) (trimmed l) n refl (definition_named n (trimmed l) there)
    (sound_line (is_utf8 l) (is_remark (trimmed l)) (broken_line (definition_in (trimmed l))) (definition_in (trimmed l)) (remark_not (trimmed l) word) sound)

-- ---- the lines of a module

abbrev IfFound : List ℕ → Option Found → Type 0
IfFound n None = Unit {0}
IfFound n (Some f) = Defines f.code n

found_if : (b : Bool) (n code : List ℕ) (k : ℕ) (o : Option Found) → (b ≡ true → Defines code n) → IfFound n o → IfFound n (if b then Some (record { code = code; line = k }) else o)
found_if true n code k o h more = h refl
found_if false n code k o h more = more

none_by : (b : Bool) (o : Option ModuleFault) (f : ModuleFault) → (if b then Some f else o) ≡ None → o ≡ None
none_by true o f e = absurd (cc)
none_by false o f e = e

behind : (k : Line) (n : ℕ) (names : List (List ℕ)) (rest : List (List ℕ) → Option ModuleFault) → fault_after_line n names k rest ≡ None → (more : List (List ℕ)) × (rest more ≡ None)
behind remark n names rest e = (names, e)
behind (faulty k) n names rest e = absurd (cc)
behind (defines f) n names rest e = (names ++ f ∷ [], none_by (list_any (bytes_eq f) names) _ _ e)

lines_define : (n : List ℕ) (k : ℕ) (names ls : List (List ℕ)) → first_fault k names ls ≡ None → IfFound n (find_from k n ls)
lines_define n k names [] e = tt
lines_define n k names (l ∷ ls) e =
    let more = behind (read_line l) k names (λ names. first_fault (k + 1) names ls) e in
    found_if (begins_definition n (trimmed l)) n (trimmed l) k _
    (λ begins. line_defines n l begins (sound_by (read_line l) k names (λ names. first_fault (k + 1) names ls) e))
    (lines_define n (k + 1) more.0 ls more.1)

found_by : (b : Bool) (n code : List ℕ) (o : Option Found) → IfFound n o → option_map (λ f. f.code) (if b then o else None) ≡ Some code → Defines code n
found_by true n code None h e = absurd (cc)
found_by true n code (Some f) h e = let same : f.code ≡ code = cc in subst (λ (c : List ℕ). Defines c n) same h
found_by false n code o h e = absurd (cc)

pub code_defines : (m n code : List ℕ) → fault_of m ≡ None → code_in m n ≡ Some code → Defines code n
code_defines m n code fine there =
    found_by (is_identifier n) n code (find_from 1 n (lines m)) (lines_define n 1 [] (lines m) (none_by (nat_lt MOST_TEXT_BYTES (length m)) _ _ fine)) there
