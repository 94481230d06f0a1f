-- What a refused line is.
use Rattle.std.proofs.Common.{◌≡◌, ℕ, ◌<◌, Bool, true, false, List, [], refl, arith}
use Rattle.std.specs.Prelude.{nat_lt, if◌then◌else◌, ◌||◌, not, Option, Some, None}
use Rattle.jl_value.specs.declared.library.ModuleFaultKind.TheVariants.{BadLine, BadName, TooDeep}
use Rattle.jl_lexer.specs.Trees.{Expression, height}
use Rattle.jl_grammar.specs.Parser.{Read, read, broken, nested_deep, read_signs}
use Rattle.jl_grammar.proofs.Soundness.{sound}
use Rattle.jl_grammar.proofs.OpenBrackets.{deepens, breaks}
use Rattle.jl_module.specs.Headings.{Heading, LineReading, bad, good, has_repeat, are_known, with_body, with_heading, heading_of, definition_in}
use Rattle.jl_module.specs.Refusals.{IsTooDeep, opens, is_high, IsDeepLine, IsBadLine, headless, breaks_off}

lt_of : (a b : ℕ) → nat_lt a b ≡ true → a < b
lt_of a b h = grind arith

abbrev judged_by : Bool → Bool → Heading → Expression → LineReading
judged_by b c h e = if b then bad TooDeep else (if c then bad BadName else good (record { name = h.name; parameters = h.parameters; body = e }))

high_by : (b c : Bool) (h : Heading) (e : Expression) → judged_by b c h e ≡ bad TooDeep → b ≡ true
high_by true c h e r = refl
high_by false true h e r = absurd (cc)
high_by false false h e r = absurd (cc)

-- a tree is no reason for a bad line
good_by : (b c : Bool) (h : Heading) (e : Expression) → judged_by b c h e ≡ bad BadLine → ⊥
good_by true c h e r = cc
good_by false true h e r = cc
good_by false false h e r = cc

deep_read : (h : Heading) (r : Read) → read_signs h.body ≡ r → with_body h r ≡ bad TooDeep → IsTooDeep h.body
deep_read h (read e) s w = let d = sound 128 h.body e s in is_high e (record { formed = d.0; words = d.1 }) (lt_of 128 (height e) (high_by (nat_lt 128 (height e)) (has_repeat [] h.parameters || not (are_known h.parameters e)) h e w))
deep_read h broken s w = absurd (cc)
deep_read h nested_deep s w = opens (deepens h.body s)

deep_heading : (line : List ℕ) (o : Option Heading) → heading_of line ≡ o → with_heading o ≡ bad TooDeep → IsDeepLine line
deep_heading line None e w = absurd (cc)
deep_heading line (Some h) e w = record { heading = h; there = e; deep = deep_read h (read_signs h.body) refl w }

-- a line is too deep only for its brackets or its tree
pub deep_line : (line : List ℕ) → definition_in line ≡ bad TooDeep → IsDeepLine line
deep_line line w = deep_heading line (heading_of line) refl w

bad_read : (h : Heading) (line : List ℕ) (r : Read) → heading_of line ≡ Some h → read_signs h.body ≡ r → with_body h r ≡ bad BadLine → IsBadLine line
bad_read h line (read e) i s w = absurd (good_by (nat_lt 128 (height e)) (has_repeat [] h.parameters || not (are_known h.parameters e)) h e w)
bad_read h line broken i s w = breaks_off h i (breaks h.body s)
bad_read h line nested_deep i s w = absurd (cc)

bad_heading : (line : List ℕ) (o : Option Heading) → heading_of line ≡ o → with_heading o ≡ bad BadLine → IsBadLine line
bad_heading line None e w = headless e
bad_heading line (Some h) e w = bad_read h line (read_signs h.body) e refl w

-- a line is bad only where it has no heading or its expression breaks off
pub bad_line : (line : List ℕ) → definition_in line ≡ bad BadLine → IsBadLine line
bad_line line w = bad_heading line (heading_of line) refl w
