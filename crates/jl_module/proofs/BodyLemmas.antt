-- What the tree that was kept, or that the grammar has, says of the line.
use Rattle.std.proofs.Common.{◌≡◌, ℕ, ◌<◌, ◌≤◌, Bool, true, false, List, [], refl, sym, ap, ◌∙◌, arith, subst, inl, inr}
use Rattle.std.specs.Prelude.{nat_lt, if◌then◌else◌, ◌||◌, not, Some, Err}
use Rattle.std.proofs.lemmas.Bool.{cases_lt}
use Rattle.jl_value.specs.declared.library.ModuleFaultKind.TheVariants.{BadLine, BadName, TooDeep}
use Rattle.jl_syntax.specs.declared.reader.Stop.{Stop}
use Rattle.jl_syntax.specs.declared.reader.Stop.TheVariants.{Bad, Deep}
use Rattle.jl_syntax.specs.Steps.{IsRead}
use Rattle.jl_lexer.specs.Trees.{Expression, tall, height, kept}
use Rattle.jl_grammar.specs.Grammar.{IsFormed, words_of, brackets}
use Rattle.jl_grammar.specs.Parser.{Read, read, broken, nested_deep, read_signs}
use Rattle.jl_module.specs.Headings.{Heading, bad, good, has_repeat, are_known, judged, with_body, with_heading, heading_of, definition_in}
use Rattle.jl_grammar.proofs.Completeness.{complete, lt_true}
use Rattle.jl_grammar.proofs.Deepness.{too_deep, brackets_low}
use Rattle.jl_grammar.proofs.Keeping.{keeps, kept_read, cut_read}

read_same : (a b : Expression) → read a ≡ read b → a ≡ b
read_same a b e = cc

-- a tree that was kept is the tree that was read
kept_by : (b : Bool) (e t : Expression) → nat_lt 128 (height e) ≡ b → (if b then tall else e) ≡ t → height t ≤ 128 → e ≡ t
kept_by true e t h same low = absurd (let high : height t ≡ 129 = ap height (sym same) in omega arith)
kept_by false e t h same low = same

low_read : (r : Read) (t : Expression) → cut_read r ≡ read t → height t ≤ 128 → r ≡ read t
low_read (read e) t same low = ap read (kept_by (nat_lt 128 (height e)) e t refl (read_same (kept e) t same) low)
low_read broken t same low = absurd (cc)
low_read nested_deep t same low = absurd (cc)

pub body_read : (ws : List (List ℕ)) (t : Expression) → kept_read ws ≡ read t → height t ≤ 128 → read_signs ws ≡ read t
body_read ws t same low = low_read (read_signs ws) t (sym (keeps 128 ws) ∙ same) low

kept_high : (b : Bool) (e t : Expression) → nat_lt 128 (height e) ≡ b → (if b then tall else e) ≡ t → 128 < height t → nat_lt 128 (height e) ≡ true
kept_high true e t h same high = h
kept_high false e t h same high = let more : 128 < height e = subst (λ (x : Expression). 128 < height x) (sym same) high in absurd (let low : height e ≤ 128 = grind arith in omega arith)

high_read : (h : Heading) (r : Read) (t : Expression) → cut_read r ≡ read t → 128 < height t → with_body h r ≡ bad TooDeep
high_read h (read e) t same high = let deep = kept_high (nat_lt 128 (height e)) e t refl (read_same (kept e) t same) high in rw deep
high_read h broken t same high = absurd (cc)
high_read h nested_deep t same high = absurd (cc)

pub body_high : (ws : List (List ℕ)) (t : Expression) → kept_read ws ≡ read t → 128 < height t → (h : Heading) → with_body h (read_signs ws) ≡ bad TooDeep
body_high ws t same high h = high_read h (read_signs ws) t (sym (keeps 128 ws) ∙ same) high

broken_read : (h : Heading) (r : Read) → cut_read r ≡ broken → with_body h r ≡ bad BadLine
broken_read h (read e) same = absurd (cc)
broken_read h broken same = refl
broken_read h nested_deep same = absurd (cc)

pub body_broken : (ws : List (List ℕ)) → kept_read ws ≡ broken → (h : Heading) → with_body h (read_signs ws) ≡ bad BadLine
body_broken ws same h = broken_read h (read_signs ws) (sym (keeps 128 ws) ∙ same)

deep_read : (h : Heading) (r : Read) → cut_read r ≡ nested_deep → with_body h r ≡ bad TooDeep
deep_read h (read e) same = absurd (cc)
deep_read h broken same = absurd (cc)
deep_read h nested_deep same = refl

pub body_deep : (ws : List (List ℕ)) → kept_read ws ≡ nested_deep → (h : Heading) → with_body h (read_signs ws) ≡ bad TooDeep
body_deep ws same h = deep_read h (read_signs ws) (sym (keeps 128 ws) ∙ same)

-- a line with a heading
pub heading_on : (h : Heading) (line : List ℕ) → heading_of line ≡ Some h → definition_in line ≡ with_body h (read_signs h.body)
heading_on h line e = ap with_heading e

low_height : (n : ℕ) → n ≤ 128 → nat_lt 128 n ≡ false
low_height n h = grind arith

pub line_read : (h : Heading) (line : List ℕ) (t : Expression) → heading_of line ≡ Some h → read_signs h.body ≡ read t → height t ≤ 128 → definition_in line ≡ (if has_repeat [] h.parameters || not (are_known h.parameters t) then bad BadName else good (record { name = h.name; parameters = h.parameters; body = t }))
line_read h line t e same low = heading_on h line e ∙ ap (with_body h) same ∙ rw (low_height (height t) low)

pub repeated : (h : Heading) (line : List ℕ) (t : Expression) → heading_of line ≡ Some h → read_signs h.body ≡ read t → height t ≤ 128 → has_repeat [] h.parameters ≡ true → definition_in line ≡ bad BadName
repeated h line t e same low r = line_read h line t e same low ∙ rw r

pub unknown : (h : Heading) (line : List ℕ) (t : Expression) → heading_of line ≡ Some h → read_signs h.body ≡ read t → height t ≤ 128 → has_repeat [] h.parameters ≡ false → are_known h.parameters t ≡ false → definition_in line ≡ bad BadName
unknown h line t e same low r k = line_read h line t e same low ∙ rw (r, k)

pub right : (h : Heading) (line : List ℕ) (t : Expression) → heading_of line ≡ Some h → read_signs h.body ≡ read t → height t ≤ 128 → has_repeat [] h.parameters ≡ false → are_known h.parameters t ≡ true → definition_in line ≡ good (record { name = h.name; parameters = h.parameters; body = t })
right h line t e same low r k = line_read h line t e same low ∙ rw (r, k)

-- the same, from what the reader answers
pub stop_broken : (ws : List (List ℕ)) (s : Stop) → s ≡ Bad → IsRead (Err s) (kept_read ws) → (h : Heading) → with_body h (read_signs ws) ≡ bad BadLine
stop_broken ws s e r = body_broken ws (subst (λ (x : Stop). IsRead (Err x) (kept_read ws)) e r)

pub stop_deep : (ws : List (List ℕ)) (s : Stop) → s ≡ Deep → IsRead (Err s) (kept_read ws) → (h : Heading) → with_body h (read_signs ws) ≡ bad TooDeep
stop_deep ws s e r = body_deep ws (subst (λ (x : Stop). IsRead (Err x) (kept_read ws)) e r)

high_judged : (h : Heading) (e : Expression) → 128 < height e → judged h e ≡ bad TooDeep
high_judged h e high = rw (lt_true 128 (height e) high)

-- a line of the grammar is judged by its tree
pub line_judged : (h : Heading) (e : Expression) → IsFormed e → words_of e ≡ h.body → with_body h (read_signs h.body) ≡ judged h e
line_judged h e f w = ap (λ ws. with_body h (read_signs ws)) (sym w) ∙ elim (cases_lt 128 (brackets e)) [
  | inl deep ↦ let low = brackets_low e in ap (with_body h) (too_deep 128 e f deep) ∙ sym (high_judged h e (omega arith))
  | inr room ↦ ap (with_body h) (complete 128 e f room)
]
