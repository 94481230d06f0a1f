-- What the laws of `TinyLibrary` rest on.
-- Machinery: nothing here need be believed.
use Rattle.std.proofs.Common.{◌≡◌, ◌<◌, ◌≤◌, ◌+◌, ◌^◌, ◌==◌, ◌&&◌, ◌++◌, ℕ, zero, suc, ℤ, pos, negsuc, Bool, true, false, not, cond, List, [], ◌∷◌, length, take, drop, Option, Some, None, IsTrue, inl, inr, refl, sym, ap, subst, arith, true≢false}
use Rattle.std.specs.Prelude.{if◌then◌else◌, nat_lt, nat_le, option_map, slice_index, ◌+ℤ◌}
use Rattle.std.specs.Fmt.{signed_decimal}
use Rattle.std.specs.Str.Parse.{signed_digits_value}
use Rattle.std.specs.List.{slice_split, onto_first, before_first, after_first, position_or_len, list_all, AllByRecursion}
use Rattle.std.specs.Char.{is_ascii_digit}
use Rattle.std.specs.Str.{IsUtf8, IsAscii}
use Rattle.std.proofs.lemmas.Str.{IsUtf8-from_ascii}
use Rattle.std.proofs.lemmas.Fmt.{length-decimal-le}
use Rattle.std.proofs.lemmas.List.Splits.{length-slice_split}
use Rattle.std.proofs.lemmas.List.Sums.{count_by-le-length, prefix_len_stops}
use Rattle.std.proofs.lemmas.Bool.{ltb-true, lt-ltb, and_parts, and_from, cases_lt}
use Rattle.std.proofs.lemmas.Bool.Decides.{nat_tests}
use Rattle.jl_text.specs.declared.limits.TheConstants.{MOST_NAME_BYTES, MOST_TEXT_BYTES}
use Rattle.jl_value.specs.declared.library.ModuleFault.{ModuleFault}
use Rattle.jl_value.specs.declared.library.ModuleFaultKind.{ModuleFaultKind}
use Rattle.jl_value.specs.declared.library.TaskError.TheVariants.{Overflow}
use Rattle.std.proofs.lemmas.Slice.Eq.{bytes_eq-Decides}
use Rattle.jl_text.specs.Texts.{is_name, is_name_byte, begins_with_digit}
use Rattle.jl_value.specs.Tree.{Tree, whole}
use Rattle.jl_value.specs.Key.{args_tree}
use Rattle.jl_value.specs.Proper.{FitsI64, IsProper}
use Rattle.jl_value.specs.Library.{value, error, IsWithin}
use Rattle.jl_value.specs.Lines.{is_line, IsLine}
use Rattle.jl_value.specs.Tiny.{is_positive, is_decimal, is_whole, number_of, definition_of, kind_among, line_fault, or_later, fault_in, name_is, defines, without_empty_last, tiny_lines, code_in, line_in, tiny_code, tiny_line, tiny_fault, answer_by, tiny_answer}

-- ---- names

name_of_defined : (l n : List ℕ) (o : Option ℤ) (b : Bool) → is_name (before_first (λ b. b == 32) l) ≡ b
    → name_is n (if b then option_map (λ z. (before_first (λ b. b == 32) l, z)) o else None) ≡ true → is_name n ≡ true
name_of_defined l n None true is e = absurd (true≢false (sym e))
name_of_defined l n (Some z) true is e = let same : before_first (λ b. b == 32) l ≡ n = (bytes_eq-Decides (before_first (λ b. b == 32) l) n).0 e in subst (λ (s : List ℕ). is_name s ≡ true) same is
name_of_defined l n o false is e = absurd (true≢false (sym e))

-- only names are defined
pub defines_names : (l n : List ℕ) → defines l n ≡ true → is_name n ≡ true
defines_names l n e = name_of_defined l n _ _ refl e

name_at : (b : Bool) (l n c : List ℕ) (later : Option (List ℕ)) → (b ≡ true → is_name n ≡ true) → (later ≡ Some c → is_name n ≡ true) → (if b then Some l else later) ≡ Some c → is_name n ≡ true
name_at true l n c later here there e = here refl
name_at false l n c later here there e = there e

code_named : (ls : List (List ℕ)) (n c : List ℕ) → code_in ls n ≡ Some c → is_name n ≡ true
code_named [] n c e = absurd (cc)
code_named (l ∷ ls) n c e = name_at (defines l n) l n c (code_in ls n) (defines_names l n) (code_named ls n c) e

pub tiny_named : (m n c : List ℕ) → tiny_code m n ≡ Some c → IsTrue (is_name n)
tiny_named m n c e = code_named (tiny_lines m) n c e

-- ---- lines

line_at : (b : Bool) (at later count : ℕ) (l c : List ℕ) (o : Option (List ℕ)) → (o ≡ Some c → (suc at ≤ later) × (later < suc at + count)) → (if b then Some l else o) ≡ Some c
    → (at ≤ (if b then at else later)) × ((if b then at else later) < at + suc count)
line_at true at later count l c o h e = (omega arith, omega arith)
line_at false at later count l c o h e = let there = h e in (omega arith, omega arith)

line_within : (ls : List (List ℕ)) (at : ℕ) (n c : List ℕ) → code_in ls n ≡ Some c → (at ≤ line_in at ls n) × (line_in at ls n < at + length ls)
line_within [] at n c e = absurd (cc)
line_within (l ∷ ls) at n c e = line_at (defines l n) at (line_in (suc at) ls n) (length ls) l c (code_in ls n) (line_within ls (suc at) n c) e

shorter_or : (b : Bool) (l : List ℕ) → length (if b then [] else l ∷ []) ≤ 1
shorter_or true l = omega arith
shorter_or false l = omega arith

fewer : (ls : List (List ℕ)) → length (without_empty_last ls) ≤ length ls
fewer [] = omega arith
fewer (l ∷ []) = shorter_or (length l == 0) l
fewer (l ∷ k ∷ ls) = let later = fewer (k ∷ ls) in omega arith

pub tiny_lines_within : (m n c : List ℕ) → tiny_code m n ≡ Some c → (1 ≤ tiny_line m n) × (tiny_line m n ≤ length m + 1)
tiny_lines_within m n c e =
    let at = line_within (tiny_lines m) 1 n c e in
    let some = fewer (slice_split (λ b. b == 10) m) in
    let cut = length-slice_split (λ b. b == 10) m in
    let newlines = count_by-le-length (λ b. b == 10) m in
    (at.0, omega arith)

-- ---- lengths

abbrev AreShort : ℕ → List (List ℕ) → Type 0
AreShort most ls = AllByRecursion (λ l. length l ≤ most) ls

longer : (most : ℕ) (ls : List (List ℕ)) → AreShort most ls → AreShort (suc most) ls
longer most [] h = tt
longer most (l ∷ ls) h = (omega (arith, h.0), longer most ls h.1)

onto : (x most : ℕ) (ls : List (List ℕ)) → AreShort most ls → AreShort (suc most) (onto_first x ls)
onto x most [] h = (omega arith, tt)
onto x most (l ∷ ls) h = (omega (arith, h.0), longer most ls h.1)

either : (b : Bool) (most : ℕ) (ks ls : List (List ℕ)) → AreShort most ks → AreShort most ls → AreShort most (cond b ks ls)
either true most ks ls h g = h
either false most ks ls h g = g

pieces_short : (m : List ℕ) → AreShort (length m) (slice_split (λ b. b == 10) m)
pieces_short [] = (omega arith, tt)
pieces_short (x ∷ m) =
    let later = pieces_short m in
    either (x == 10) (suc (length m)) ([] ∷ slice_split (λ b. b == 10) m) (onto_first x (slice_split (λ b. b == 10) m)) (omega arith, longer (length m) _ later) (onto x (length m) _ later)

none_or : (b : Bool) (most : ℕ) (l : List ℕ) → length l ≤ most → AreShort most (if b then [] else l ∷ [])
none_or true most l h = tt
none_or false most l h = (h, tt)

lines_short : (most : ℕ) (ls : List (List ℕ)) → AreShort most ls → AreShort most (without_empty_last ls)
lines_short most [] h = tt
lines_short most (l ∷ []) h = none_or (length l == 0) most l h.0
lines_short most (l ∷ k ∷ ls) h = (h.0, lines_short most (k ∷ ls) h.1)

short_at : (b : Bool) (most : ℕ) (l c : List ℕ) (later : Option (List ℕ)) → length l ≤ most → (later ≡ Some c → length c ≤ most) → (if b then Some l else later) ≡ Some c → length c ≤ most
short_at true most l c later h g e = let same : l ≡ c = cc in subst (λ (s : List ℕ). length s ≤ most) same h
short_at false most l c later h g e = g e

code_short : (most : ℕ) (ls : List (List ℕ)) (n c : List ℕ) → AreShort most ls → code_in ls n ≡ Some c → length c ≤ most
code_short most [] n c h e = absurd (cc)
code_short most (l ∷ ls) n c h e = short_at (defines l n) most l c (code_in ls n) h.0 (code_short most ls n c h.1) e

pub tiny_short : (m n c : List ℕ) → tiny_code m n ≡ Some c → length c ≤ length m
tiny_short m n c e = code_short (length m) (tiny_lines m) n c (lines_short (length m) _ (pieces_short m)) e

-- ---- one line

-- lines, and a byte in front of the first of them or a newline
line_step : (b : Bool) (x : ℕ) (ls : List (List ℕ)) → (x == 10) ≡ b → list_all is_line ls ≡ true → list_all is_line (cond b ([] ∷ ls) (onto_first x ls)) ≡ true
line_step true x ls is e = e
line_step false x [] is e = and_from (is_line (x ∷ [])) true (and_from (not (x == 10)) true (ap not is) refl) refl
line_step false x (l ∷ ls) is e =
    let parts = and_parts (is_line l) (list_all is_line ls) e in
    and_from (is_line (x ∷ l)) (list_all is_line ls) (and_from (not (x == 10)) (is_line l) (ap not is) parts.0) parts.1

pieces_one : (m : List ℕ) → list_all is_line (slice_split (λ b. b == 10) m) ≡ true
pieces_one [] = refl
pieces_one (x ∷ m) = line_step (x == 10) x (slice_split (λ b. b == 10) m) refl (pieces_one m)

none_or_one : (b : Bool) (l : List ℕ) → list_all is_line (l ∷ []) ≡ true → list_all is_line (if b then [] else l ∷ []) ≡ true
none_or_one true l e = refl
none_or_one false l e = e

lines_one : (ls : List (List ℕ)) → list_all is_line ls ≡ true → list_all is_line (without_empty_last ls) ≡ true
lines_one [] e = refl
lines_one (l ∷ []) e = none_or_one (length l == 0) l e
lines_one (l ∷ k ∷ ls) e =
    let parts = and_parts (is_line l) (list_all is_line (k ∷ ls)) e in
    and_from (is_line l) (list_all is_line (without_empty_last (k ∷ ls))) parts.0 (lines_one (k ∷ ls) parts.1)

one_at : (b : Bool) (l c : List ℕ) (later : Option (List ℕ)) → is_line l ≡ true → (later ≡ Some c → is_line c ≡ true) → (if b then Some l else later) ≡ Some c → is_line c ≡ true
one_at true l c later h g e = let same : l ≡ c = cc in subst (λ (s : List ℕ). is_line s ≡ true) same h
one_at false l c later h g e = g e

code_one : (ls : List (List ℕ)) (n c : List ℕ) → list_all is_line ls ≡ true → code_in ls n ≡ Some c → is_line c ≡ true
code_one [] n c h e = absurd (cc)
code_one (l ∷ ls) n c h e =
    let parts = and_parts (is_line l) (list_all is_line ls) h in
    one_at (defines l n) l c (code_in ls n) parts.0 (code_one ls n c parts.1) e

pub tiny_one_line : (m n c : List ℕ) → tiny_code m n ≡ Some c → IsLine c
tiny_one_line m n c e = code_one (tiny_lines m) n c (lines_one (slice_split (λ b. b == 10) m) (pieces_one m)) e

-- ---- faults

-- bytes below 128
abbrev pub is_low : List ℕ → Bool
is_low l = list_all (λ b. nat_lt b 128) l

low_index : (x : ℕ) (l : List ℕ) → x < 128 → IsAscii l → (i : ℕ) → slice_index (x ∷ l) i < 128
low_index x l h k zero = h
low_index x l h k (suc i) = k i

low_ascii : (l : List ℕ) → is_low l ≡ true → IsAscii l
low_ascii [] h = λ i. omega arith
low_ascii (x ∷ l) h = let parts = and_parts (nat_lt x 128) (is_low l) h in low_index x l (ltb-true x 128 parts.0) (low_ascii l parts.1)

-- such bytes are a text
pub low_utf8 : (l : List ℕ) → is_low l ≡ true → IsUtf8 l
low_utf8 l h = IsUtf8-from_ascii l (low_ascii l h)

name_byte_low : (b : ℕ) → is_name_byte b ≡ true → nat_lt b 128 ≡ true
name_byte_low b h = grind (arith, nat_tests)

digit_low : (b : ℕ) → is_ascii_digit b ≡ true → nat_lt b 128 ≡ true
digit_low b h = grind (arith, nat_tests)

name_bytes_low : (t : List ℕ) → list_all is_name_byte t ≡ true → is_low t ≡ true
name_bytes_low [] h = refl
name_bytes_low (b ∷ bs) h =
    let parts = and_parts (is_name_byte b) (list_all is_name_byte bs) h in and_from (nat_lt b 128) (is_low bs) (name_byte_low b parts.0) (name_bytes_low bs parts.1)

digits_low : (t : List ℕ) → list_all is_ascii_digit t ≡ true → is_low t ≡ true
digits_low [] h = refl
digits_low (b ∷ bs) h =
    let parts = and_parts (is_ascii_digit b) (list_all is_ascii_digit bs) h in and_from (nat_lt b 128) (is_low bs) (digit_low b parts.0) (digits_low bs parts.1)

name_low : (t : List ℕ) → is_name t ≡ true → is_low t ≡ true
name_low t h =
    let a = and_parts (nat_lt 0 (length t)) _ h in
    let b = and_parts (nat_le (length t) MOST_NAME_BYTES) _ a.1 in
    let c = and_parts (not (begins_with_digit t)) (list_all is_name_byte t) b.1 in
    name_bytes_low t c.1

else_true : (b x : Bool) → (if b then false else x) ≡ true → x ≡ true
else_true true x e = absurd (true≢false (sym e))
else_true false x e = e

positive_low : (ds : List ℕ) → is_positive ds ≡ true → is_low ds ≡ true
positive_low [] e = refl
positive_low (d ∷ ds) e = digits_low (d ∷ ds) (else_true (d == 48) _ e)

zero_low : (cs : List ℕ) → (length cs == 0) ≡ true → is_low cs ≡ true
zero_low [] e = refl
zero_low (c ∷ cs) e = absurd (grind (arith, nat_tests))

decimal_by : (c : ℕ) (cs : List ℕ) (none minus : Bool) → (c == 48) ≡ none → (c == 45) ≡ minus
    → (if none then length cs == 0 else if minus then is_positive cs else is_positive (c ∷ cs)) ≡ true → is_low (c ∷ cs) ≡ true
decimal_by c cs true minus is is' e = and_from (nat_lt c 128) (is_low cs) (grind (arith, nat_tests)) (zero_low cs e)
decimal_by c cs false true is is' e = and_from (nat_lt c 128) (is_low cs) (grind (arith, nat_tests)) (positive_low cs e)
decimal_by c cs false false is is' e = positive_low (c ∷ cs) e

decimal_low : (s : List ℕ) → is_decimal s ≡ true → is_low s ≡ true
decimal_low [] e = refl
decimal_low (c ∷ cs) e = decimal_by c cs (c == 48) (c == 45) refl refl e

number_by : (b : Bool) (o : Option ℤ) (s : List ℕ) (z : ℤ) → is_decimal s ≡ b → (if b then o else None) ≡ Some z → is_low s ≡ true
number_by true o s z is e = decimal_low s is
number_by false o s z is e = absurd (cc)

-- what stands before a byte, that byte and what stands behind it
around : (l : List ℕ) (n : ℕ) → is_low (take n l) ≡ true → slice_index l n < 128 → is_low (drop (suc n) l) ≡ true → is_low l ≡ true
around [] n a b c = refl
around (x ∷ l) zero a b c = and_from (nat_lt x 128) (is_low l) (lt-ltb x 128 b) c
around (x ∷ l) (suc n) a b c = let parts = and_parts (nat_lt x 128) (is_low (take n l)) a in and_from (nat_lt x 128) (is_low l) parts.0 (around l n parts.1 b c)

over : (l : List ℕ) (n : ℕ) → length l ≤ n → slice_index l n ≡ 0
over [] n h = refl
over (x ∷ l) zero h = absurd (omega arith)
over (x ∷ l) (suc n) h = over l n (omega arith)

space_low : (l : List ℕ) → slice_index l (position_or_len (λ b. b == 32) l) < 128
space_low l =
    let n = position_or_len (λ b. b == 32) l in
    elim (cases_lt n (length l)) [
      | inl within ↦ let stops = prefix_len_stops (λ b. not (b == 32)) l 0 within in grind (arith, nat_tests)
      | inr past ↦ let none = over l n past in omega arith
    ]

-- the two sides of the first space
sides_low : (l : List ℕ) → is_low (before_first (λ b. b == 32) l) ≡ true → is_low (after_first (λ b. b == 32) l) ≡ true → is_low l ≡ true
sides_low l a c =
    let n = position_or_len (λ b. b == 32) l in
    let same : n + 1 ≡ suc n = omega arith in
    around l n a (space_low l) (subst (λ (k : ℕ). is_low (drop k l) ≡ true) same c)

defined_by : (b : Bool) (o : Option ℤ) (l : List ℕ) (d : List ℕ × ℤ) → is_name (before_first (λ b. b == 32) l) ≡ b → number_of (after_first (λ b. b == 32) l) ≡ o
    → (if b then option_map (λ z. (before_first (λ b. b == 32) l, z)) o else None) ≡ Some d → is_low l ≡ true
defined_by true (Some z) l d is num e =
    let name = before_first (λ b. b == 32) l in
    let number = after_first (λ b. b == 32) l in
    sides_low l (name_low name is) (number_by (is_decimal number) (if is_whole (signed_digits_value 10 number) then Some (signed_digits_value 10 number) else None) number z refl num)
defined_by true None l d is num e = absurd (cc)
defined_by false o l d is num e = absurd (cc)

-- a definition has no other bytes
pub defined_low : (l : List ℕ) (d : List ℕ × ℤ) → definition_of l ≡ Some d → is_low l ≡ true
defined_low l d e = defined_by (is_name (before_first (λ b. b == 32) l)) (number_of (after_first (λ b. b == 32) l)) l d refl refl e

line_defined : (before : List (List ℕ)) (o : Option (List ℕ × ℤ)) → kind_among before o ≡ None → (d : List ℕ × ℤ) × (o ≡ Some d)
line_defined before None e = absurd (cc)
line_defined before (Some d) e = (d, refl)

neither : (at : ℕ) (k : Option ModuleFaultKind) (later : Option ModuleFault) → or_later at k later ≡ None → (k ≡ None) × (later ≡ None)
neither at None later e = (refl, e)
neither at (Some k) later e = absurd (cc)

sound_low : (ls before : List (List ℕ)) (at : ℕ) → fault_in before at ls ≡ None → list_all is_low ls ≡ true
sound_low [] before at e = refl
sound_low (l ∷ ls) before at e =
    let both = neither at (line_fault before l) (fault_in (before ++ l ∷ []) (suc at) ls) e in
    let own = line_defined before (definition_of l) both.0 in
    and_from (is_low l) (list_all is_low ls) (defined_low l own.0 own.1) (sound_low ls (before ++ l ∷ []) (suc at) both.1)

last_low : (l : List ℕ) (b : Bool) → (length l == 0) ≡ b → list_all is_low (if b then [] else l ∷ []) ≡ true → list_all is_low (l ∷ []) ≡ true
last_low [] b is e = refl
last_low (x ∷ l) true is e = absurd (grind (arith, nat_tests))
last_low (x ∷ l) false is e = e

with_last : (ls : List (List ℕ)) → list_all is_low (without_empty_last ls) ≡ true → list_all is_low ls ≡ true
with_last [] e = refl
with_last (l ∷ []) e = last_low l (length l == 0) refl e
with_last (l ∷ k ∷ ls) e =
    let parts = and_parts (is_low l) (list_all is_low (without_empty_last (k ∷ ls))) e in
    and_from (is_low l) (list_all is_low (k ∷ ls)) parts.0 (with_last (k ∷ ls) parts.1)

onto_low : (x : ℕ) (ls : List (List ℕ)) → list_all is_low (onto_first x ls) ≡ true → (nat_lt x 128 ≡ true) × (list_all is_low ls ≡ true)
onto_low x [] e = ((and_parts (nat_lt x 128) true (and_parts (nat_lt x 128 && true) true e).0).0, refl)
onto_low x (l ∷ ls) e =
    let parts = and_parts (nat_lt x 128 && is_low l) (list_all is_low ls) e in
    let first = and_parts (nat_lt x 128) (is_low l) parts.0 in
    (first.0, and_from (is_low l) (list_all is_low ls) first.1 parts.1)

joined_by : (x : ℕ) (m : List ℕ) (b : Bool) → (x == 10) ≡ b → (list_all is_low (slice_split (λ b. b == 10) m) ≡ true → is_low m ≡ true)
    → list_all is_low (cond b ([] ∷ slice_split (λ b. b == 10) m) (onto_first x (slice_split (λ b. b == 10) m))) ≡ true → is_low (x ∷ m) ≡ true
joined_by x m true is rest e = and_from (nat_lt x 128) (is_low m) (grind (arith, nat_tests)) (rest (and_parts true (list_all is_low (slice_split (λ b. b == 10) m)) e).1)
joined_by x m false is rest e = let parts = onto_low x (slice_split (λ b. b == 10) m) e in and_from (nat_lt x 128) (is_low m) parts.0 (rest parts.1)

joined_low : (m : List ℕ) → list_all is_low (slice_split (λ b. b == 10) m) ≡ true → is_low m ≡ true
joined_low [] e = refl
joined_low (x ∷ m) e = joined_by x m (x == 10) refl (joined_low m) e

pub tiny_utf8 : (m : List ℕ) → tiny_fault m ≡ None → IsUtf8 m
tiny_utf8 m e = low_utf8 m (joined_low m (with_last (slice_split (λ b. b == 10) m) (sound_low (tiny_lines m) [] 1 e)))

-- ---- answers

pub is_whole-true : (z : ℤ) → is_whole z ≡ true → FitsI64 z
is_whole-true (pos n) e = ltb-true n (2 ^ 63) e
is_whole-true (negsuc n) e = ltb-true n (2 ^ 63) e

whole_short : (z : ℤ) → FitsI64 z → length (signed_decimal z) ≤ MOST_TEXT_BYTES
whole_short (pos n) h = let short = length-decimal-le 20 n (omega arith) (omega arith) (omega arith) in omega arith
whole_short (negsuc n) h = let short = length-decimal-le 20 (suc n) (omega arith) (omega arith) (omega arith) in omega arith

sum_within : (b : Bool) (z : ℤ) → is_whole z ≡ b → IsWithin (if b then value (whole z) else error Overflow)
sum_within true z is = let fits = is_whole-true z is in (fits, omega arith, whole_short z fits)
sum_within false z is = tt

by_within : (o : Option (List ℕ × ℤ)) (count : ℕ) → IsWithin (answer_by o count)
by_within None count = tt
by_within (Some d) count = sum_within (is_whole (d.1 +ℤ pos count)) (d.1 +ℤ pos count) refl

pub tiny_within : (c : List ℕ) (ps : List (List ℕ × Tree)) → IsProper (args_tree ps) → IsWithin (tiny_answer c ps)
tiny_within c ps h = by_within (definition_of c) (length ps)
