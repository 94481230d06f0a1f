-- The laws of a module: codes of names alone, each of one line, lines from 1, no code longer than its module, and no module that is no text.
-- Machinery: nothing here need be believed.
use Rattle.std.specs.Prelude.{◌≡◌, ◌≤◌, ◌<◌, ℕ, zero, suc, ◌+◌, Bool, true, false, ◌&&◌, nat_eq, nat_lt, not, if◌then◌else◌, List, [], ◌∷◌, ◌++◌, length, Option, Some, None, option_map, IsTrue, refl}
use Rattle.std.proofs.Common.{arith, sym, ap, subst, ◌∙◌, true≢false, get_or}
use Rattle.std.specs.Option.{option_map_or}
use Rattle.std.specs.List.{onto_first, list_any, list_all}
use Rattle.std.specs.Str.{is_utf8, IsUtf8, bytes_eq}
use Rattle.std.proofs.lemmas.Str.{IsUtf8-append, IsUtf8-nil, IsUtf8-from_is_utf8, IsUtf8-from_ascii}
use Rattle.std.proofs.lemmas.Bool.{and_parts, and_from}
use Rattle.jl_text.specs.declared.limits.TheConstants.{MOST_TEXT_BYTES}
use Rattle.jl_text.specs.Texts.{is_name}
use Rattle.jl_value.specs.declared.library.ModuleFault.{ModuleFault}
use Rattle.jl_value.specs.declared.library.ModuleFaultKind.{ModuleFaultKind}
use Rattle.jl_value.specs.Lines.{is_line, IsLine}
use Rattle.jl_lexer.specs.Words.{is_identifier}
use Rattle.jl_module.specs.Modules.{lines, trimmed, before_end, is_trailing, Line, remark, faulty, defines, read_line, fault_after_line, first_fault, fault_of, begins_definition, Found, find_from, find, code_in, line_in}

-- ---- names

first_of : (a b : Bool) → (a && b) ≡ true → a ≡ true
first_of true b e = refl
first_of false b e = absurd (true≢false (sym e))

code_if : (b : Bool) (o : Option Found) (c : List ℕ) → option_map (λ f. f.code) (if b then o else None) ≡ Some c → b ≡ true
code_if true o c e = refl
code_if false o c e = absurd (cc)

pub code_named : (m n c : List ℕ) → code_in m n ≡ Some c → IsTrue (is_name n)
code_named m n c e = first_of (is_name n) _ (code_if (is_identifier n) _ c e)

-- ---- lines and lengths

-- the length of texts, each with its newline
abbrev length_in : List (List ℕ) → ℕ
length_in [] = 0
length_in (l ∷ ls) = suc (length l + length_in ls)

onto_length : (b : ℕ) (ls : List (List ℕ)) → length_in (onto_first b ls) ≤ suc (suc (length_in ls))
onto_length b [] = omega arith
onto_length b (l ∷ ls) = omega arith

onto_length_some : (b : ℕ) (ls : List (List ℕ)) → 0 < length_in ls → length_in (onto_first b ls) ≡ suc (length_in ls)
onto_length_some b [] h = absurd (omega arith)
onto_length_some b (l ∷ ls) h = omega arith

step_length : (b : ℕ) (t : Bool) (ls : List (List ℕ)) (n : ℕ) → length_in ls ≡ suc n → length_in (if t then [] ∷ ls else onto_first b ls) ≡ suc (suc n)
step_length b true ls n e = omega arith
step_length b false ls n e = let more = onto_length_some b ls (omega arith) in omega arith

lines_length : (m : List ℕ) → length_in (lines m) ≡ suc (length m)
lines_length [] = refl
lines_length (b ∷ bs) = step_length b (nat_eq b 10) (lines bs) (length bs) (lines_length bs)

before_length : (b : ℕ) (t : Bool) (bs : List ℕ) → length (if t then [] else b ∷ []) ≤ suc (length bs)
before_length b true bs = omega arith
before_length b false bs = omega arith

ends_length : (b : ℕ) (ts bs : List ℕ) → length ts ≤ length bs → length (before_end b ts) ≤ suc (length bs)
ends_length b [] bs h = before_length b (is_trailing b) bs
ends_length b (t ∷ ts) bs h = omega arith

trimmed_length : (l : List ℕ) → length (trimmed l) ≤ length l
trimmed_length [] = omega arith
trimmed_length (b ∷ bs) = ends_length b (trimmed bs) bs (trimmed_length bs)

-- what holds of a definition that was found
record Within (low size : ℕ) (f : Found) : Type 0 where
  from : low ≤ f.line
  to : f.line < low + size
  short : suc (length f.code) ≤ size

abbrev IfFound : (Found → Type 0) → Option Found → Type 0
IfFound P None = Unit {0}
IfFound P (Some f) = P f

later : (n size more : ℕ) (o : Option Found) → more ≤ size → 0 < more → IfFound (Within (n + 1) size) o → IfFound (Within n (more + size)) o
later n size more None h k w = tt
later n size more (Some f) h k w = record { from = omega arith; to = omega arith; short = omega arith }

found_if : (b : Bool) (n : ℕ) (l : List ℕ) (size : ℕ) (o : Option Found) → IfFound (Within n (suc (length l + size))) o → IfFound (Within n (suc (length l + size))) (if b then Some (record { code = trimmed l; line = n }) else o)
found_if true n l size o h = let less = trimmed_length l in record { from = omega arith; to = omega arith; short = omega arith }
found_if false n l size o h = h

wider : (n l size : ℕ) (o : Option Found) → IfFound (Within (n + 1) size) o → IfFound (Within n (suc (l + size))) o
wider n l size None w = tt
wider n l size (Some f) w = record { from = omega (arith, w.from); to = omega (arith, w.to); short = omega (arith, w.short) }

found_within : (n : ℕ) (name : List ℕ) (ls : List (List ℕ)) → IfFound (Within n (length_in ls)) (find_from n name ls)
found_within n name [] = tt
found_within n name (l ∷ ls) = found_if (begins_definition name (trimmed l)) n l (length_in ls) _ (wider n (length l) (length_in ls) _ (found_within (n + 1) name ls))

find_if : (b : Bool) (P : Found → Type 0) (o : Option Found) → IfFound P o → IfFound P (if b then o else None)
find_if true P o h = h
find_if false P o h = tt

find_within : (m n : List ℕ) → IfFound (Within 1 (suc (length m))) (find m n)
find_within m n = find_if (is_identifier n) _ _ (subst (λ size. IfFound (Within 1 size) (find_from 1 n (lines m))) (lines_length m) (found_within 1 n (lines m)))

short_by : (size : ℕ) (o : Option Found) (c : List ℕ) → IfFound (Within 1 (suc size)) o → option_map (λ f. f.code) o ≡ Some c → length c ≤ size
short_by size None c w e = absurd (cc)
short_by size (Some f) c w e = let same : f.code ≡ c = cc in subst (λ (s : List ℕ). length s ≤ size) same (omega (arith, w.short))

lines_by : (size : ℕ) (o : Option Found) (c : List ℕ) → IfFound (Within 1 (suc size)) o → option_map (λ f. f.code) o ≡ Some c → (1 ≤ option_map_or (λ f. f.line) o 0) × (option_map_or (λ f. f.line) o 0 ≤ size + 1)
lines_by size None c w e = absurd (cc)
lines_by size (Some f) c w e = (omega (arith, w.from), omega (arith, w.to))

pub code_short : (m n c : List ℕ) → code_in m n ≡ Some c → length c ≤ length m
code_short m n c e = short_by (length m) (find m n) c (find_within m n) e

pub lines_from_one : (m n c : List ℕ) → code_in m n ≡ Some c → (1 ≤ line_in m n) × (line_in m n ≤ length m + 1)
lines_from_one m n c e = lines_by (length m) (find m n) c (find_within m n) e

-- ---- one line

with_byte : (b : ℕ) (l : List ℕ) → nat_eq b 10 ≡ false → is_line l ≡ true → is_line (b ∷ l) ≡ true
with_byte b l is e = and_from (not (nat_eq b 10)) (is_line l) (ap not is) e

line_step : (t : Bool) (b : ℕ) (ls : List (List ℕ)) → nat_eq b 10 ≡ t → list_all is_line ls ≡ true → list_all is_line (if t then [] ∷ ls else onto_first b ls) ≡ true
line_step true b ls is e = e
line_step false b [] is e = and_from (is_line (b ∷ [])) true (with_byte b [] is refl) refl
line_step false b (l ∷ ls) is e =
    let parts = and_parts (is_line l) (list_all is_line ls) e in and_from (is_line (b ∷ l)) (list_all is_line ls) (with_byte b l is parts.0) parts.1

-- each line of a module is one line
lines_one : (m : List ℕ) → list_all is_line (lines m) ≡ true
lines_one [] = refl
lines_one (b ∷ bs) = line_step (nat_eq b 10) b (lines bs) refl (lines_one bs)

end_one : (t : Bool) (b : ℕ) → is_line (b ∷ []) ≡ true → is_line (if t then [] else b ∷ []) ≡ true
end_one true b e = refl
end_one false b e = e

-- a byte before what is left of the bytes behind it
ends_one : (b : ℕ) (ts : List ℕ) → not (nat_eq b 10) ≡ true → is_line ts ≡ true → is_line (before_end b ts) ≡ true
ends_one b [] first e = end_one (is_trailing b) b (and_from (not (nat_eq b 10)) true first refl)
ends_one b (t ∷ ts) first e = and_from (not (nat_eq b 10)) (is_line (t ∷ ts)) first e

trimmed_one : (l : List ℕ) → is_line l ≡ true → is_line (trimmed l) ≡ true
trimmed_one [] e = refl
trimmed_one (b ∷ bs) e = let parts = and_parts (not (nat_eq b 10)) (is_line bs) e in ends_one b (trimmed bs) parts.0 (trimmed_one bs parts.1)

one_if : (t : Bool) (f : Found) (o : Option Found) → IsLine f.code → IfFound (λ d. IsLine d.code) o → IfFound (λ d. IsLine d.code) (if t then Some f else o)
one_if true f o h more = h
one_if false f o h more = more

found_one : (n : ℕ) (name : List ℕ) (ls : List (List ℕ)) → list_all is_line ls ≡ true → IfFound (λ f. IsLine f.code) (find_from n name ls)
found_one n name [] e = tt
found_one n name (l ∷ ls) e =
    let parts = and_parts (is_line l) (list_all is_line ls) e in
    one_if (begins_definition name (trimmed l)) (record { code = trimmed l; line = n }) (find_from (n + 1) name ls) (trimmed_one l parts.0) (found_one (n + 1) name ls parts.1)

one_by : (o : Option Found) (c : List ℕ) → IfFound (λ f. IsLine f.code) o → option_map (λ f. f.code) o ≡ Some c → IsLine c
one_by None c h e = absurd (cc)
one_by (Some f) c h e = let same : f.code ≡ c = cc in subst IsLine same h

pub code_is_one_line : (m n c : List ℕ) → code_in m n ≡ Some c → IsLine c
code_is_one_line m n c e = one_by (find m n) c (find_if (is_identifier n) _ _ (found_one 1 n (lines m) (lines_one m))) e

-- ---- a module is a text

abbrev AreTexts : List (List ℕ) → Type 0
AreTexts [] = Unit {0}
AreTexts (l ∷ ls) = IsUtf8 l × AreTexts ls

text_by : (b : Bool) (k : Line) (f : ModuleFaultKind) (n : ℕ) (names : List (List ℕ)) (rest : List (List ℕ) → Option ModuleFault) → fault_after_line n names (if b then k else faulty f) rest ≡ None → b ≡ true
text_by true k f n names rest e = refl
text_by false k f n names rest e = absurd (cc)

twice_by : (b : Bool) (o p : Option ModuleFault) (f : ModuleFault) → o ≡ Some f → (if b then o else p) ≡ None → p ≡ None
twice_by true o p f same e = absurd (cc)
twice_by false o p f same e = e

rest_by : (k : Line) (n : ℕ) (names : List (List ℕ)) (rest : List (List ℕ) → Option ModuleFault) → fault_after_line n names k rest ≡ None → (more : List (List ℕ)) × (rest more ≡ None)
rest_by remark n names rest e = (names, e)
rest_by (faulty k) n names rest e = absurd (cc)
rest_by (defines f) n names rest e = (names ++ f ∷ [], twice_by (list_any (bytes_eq f) names) _ _ _ refl e)

texts_by : (n : ℕ) (names ls : List (List ℕ)) → first_fault n names ls ≡ None → AreTexts ls
texts_by n names [] e = tt
texts_by n names (l ∷ ls) e =
    let more = rest_by (read_line l) n names (λ more. first_fault (n + 1) more ls) e in
    (IsUtf8-from_is_utf8 l (text_by (is_utf8 l) _ _ n names (λ more. first_fault (n + 1) more ls) e), texts_by (n + 1) more.0 ls more.1)

-- lines put together again
abbrev together : List (List ℕ) → List ℕ
together [] = []
together (l ∷ []) = l
together (l ∷ k ∷ ls) = l ++ 10 ∷ together (k ∷ ls)

longer_first : (b : ℕ) (l : List ℕ) (ls : List (List ℕ)) → together ((b ∷ l) ∷ ls) ≡ b ∷ together (l ∷ ls)
longer_first b l [] = refl
longer_first b l (k ∷ ls) = refl

together_step : (b : ℕ) (t : Bool) (ls : List (List ℕ)) (n : ℕ) → (t ≡ true → b ≡ 10) → length_in ls ≡ suc n → together (if t then [] ∷ ls else onto_first b ls) ≡ b ∷ together ls
together_step b t [] n h e = absurd (omega arith)
together_step b true (l ∷ ls) n h e = ap (λ d. d ∷ together (l ∷ ls)) (sym (h refl))
together_step b false (l ∷ ls) n h e = longer_first b l ls

is_ten : (b : ℕ) → nat_eq b 10 ≡ true → b ≡ 10
is_ten b h = grind arith

together_lines : (m : List ℕ) → together (lines m) ≡ m
together_lines [] = refl
together_lines (b ∷ bs) = together_step b (nat_eq b 10) (lines bs) (length bs) (is_ten b) (lines_length bs) ∙ ap (λ r. b ∷ r) (together_lines bs)

newline_ascii : (i : ℕ) → get_or (10 ∷ []) i 0 < 128
newline_ascii zero = omega arith
newline_ascii (suc i) = omega arith

together_text : (ls : List (List ℕ)) → AreTexts ls → IsUtf8 (together ls)
together_text [] h = IsUtf8-nil
together_text (l ∷ []) h = h.0
together_text (l ∷ k ∷ ls) h = IsUtf8-append l (10 ∷ together (k ∷ ls)) h.0 (IsUtf8-append (10 ∷ []) (together (k ∷ ls)) (IsUtf8-from_ascii (10 ∷ []) newline_ascii) (together_text (k ∷ ls) h.1))

pub module_utf8 : (m : List ℕ) → fault_of m ≡ None → IsUtf8 m
module_utf8 m e = subst IsUtf8 (together_lines m) (together_text (lines m) (texts_by 1 [] (lines m) (twice_by (nat_lt MOST_TEXT_BYTES (length m)) _ _ _ refl e)))
