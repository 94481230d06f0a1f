-- Numbers and lines of the small library.
use Rattle.std.proofs.Common.{◌≡◌, ◌≢◌, ◌^◌, ◌==◌, ◌++◌, Bor, ℕ, zero, suc, ℤ, pos, negsuc, Bool, true, false, List, [], ◌∷◌, length, map, take, Option, Some, None, get_or, refl, sym, ap, ap₂, ◌∙◌, subst, arith, rules, true≢false, ne_eqb, lit<}
use Rattle.std.proofs.lemmas.Bool.{eqb-true, lt-ltb, ltb-true}
use Rattle.std.specs.Prelude.{if◌then◌else◌, is_some, Result, Ok, Err}
use Rattle.std.specs.Result.{result_ok}
use Rattle.std.specs.Char.{is_ascii_digit}
use Rattle.std.specs.List.{list_all}
use Rattle.std.specs.Str.Parse.{IsNumeral, ParsesSigned, without_leading_sign, signed_digits_value, digits_value}
use Rattle.std.proofs.lemmas.Str.Parse.{IsNumeralModel, IsDigitsTest, numerals_by_value, digit_from_value}
use Rattle.std.proofs.lemmas.List.{nil_from_length}
use mir.Syntax.{w64}
use mir.Val.{SFits}
use Rattle.jl_value.specs.Tiny.{is_positive, is_decimal, is_whole, number_of, definition_of, name_is, defines, without_empty_last, code_in, line_in, kind_among, line_fault, or_later, fault_in, as_text}
use Rattle.jl_value.specs.declared.library.ModuleFaultKind.TheVariants.{Twice}
use Rattle.std.proofs.lemmas.Str.{is_utf8-from_IsUtf8}
use Rattle.std.specs.Str.{is_utf8}
use Rattle.std.proofs.lemmas.List.{map-append}
use Rattle.jl_value.specs.TinyLaws.{defined_low, low_utf8}

-- `list_all` tells the texts of digits
are_digits : IsDigitsTest (λ ds. list_all is_ascii_digit ds ≡ true)
are_digits = search rules

own : IsNumeralModel (λ ds. list_all is_ascii_digit ds ≡ true) (digits_value 10)
own = numerals_by_value _ are_digits

-- the test tells what 64 bits hold
pub fits_whole : (z : ℤ) → SFits w64 z → is_whole z ≡ true
fits_whole (pos n) h = lt-ltb n (2 ^ 63) (omega arith)
fits_whole (negsuc n) h = lt-ltb n (2 ^ 63) (omega arith)

pub whole_fits : (z : ℤ) → is_whole z ≡ true → SFits w64 z
whole_fits (pos n) h = let low = ltb-true n (2 ^ 63) h in omega arith
whole_fits (negsuc n) h = let low = ltb-true n (2 ^ 63) h in omega arith

else_true : (b x : Bool) → (if b then false else x) ≡ true → x ≡ true
else_true true x e = absurd (true≢false (sym e))
else_true false x e = e

positive_digits : (ds : List ℕ) → is_positive ds ≡ true → IsNumeral 10 ds
positive_digits [] e = absurd (true≢false (sym e))
positive_digits (d ∷ ds) e = (omega arith, own.to (d ∷ ds) (else_true (d == 48) _ e))

minus_numeral : (c : ℕ) (cs : List ℕ) → c ≡ 45 → IsNumeral 10 cs → IsNumeral 10 (without_leading_sign (c ∷ cs))
minus_numeral c cs is h = subst (λ (d : ℕ). IsNumeral 10 (without_leading_sign (d ∷ cs))) (sym is) h

plain_numeral : (c : ℕ) (cs : List ℕ) → IsNumeral 10 (c ∷ cs) → IsNumeral 10 (without_leading_sign (c ∷ cs))
plain_numeral c cs h =
    let digit = digit_from_value c h.1.0 in
    let no_minus : c ≢ 45 = omega arith in
    let no_plus : c ≢ 43 = omega arith in
    rw (ne_eqb c 45 no_minus, ne_eqb c 43 no_plus) h

zero_numeral : (c : ℕ) (cs : List ℕ) → c ≡ 48 → length cs ≡ 0 → IsNumeral 10 (c ∷ cs)
zero_numeral c cs is none =
    let zero' : IsNumeral 10 (48 ∷ []) = (lit< tt, (lit< tt, tt)) in
    subst (λ (d : ℕ). IsNumeral 10 (d ∷ cs)) (sym is) (subst (λ (ds : List ℕ). IsNumeral 10 (48 ∷ ds)) (sym (nil_from_length cs none)) zero')

numeral_by : (c : ℕ) (cs : List ℕ) (zero' minus : Bool) → (c == 48) ≡ zero' → (c == 45) ≡ minus → (if zero' then length cs == 0 else if minus then is_positive cs else is_positive (c ∷ cs)) ≡ true → IsNumeral 10 (without_leading_sign (c ∷ cs))
numeral_by c cs true minus is is' e = plain_numeral c cs (zero_numeral c cs (eqb-true c 48 is) (eqb-true (length cs) 0 e))
numeral_by c cs false true is is' e = minus_numeral c cs (eqb-true c 45 is') (positive_digits cs e)
numeral_by c cs false false is is' e = plain_numeral c cs (positive_digits (c ∷ cs) e)

-- behind its sign a decimal has digits alone
decimal_numeral : (s : List ℕ) → is_decimal s ≡ true → IsNumeral 10 (without_leading_sign s)
decimal_numeral [] e = absurd (true≢false (sym e))
decimal_numeral (c ∷ cs) e = numeral_by c cs (c == 48) (c == 45) refl refl e

read_as : {E : Type 0} (s : List ℕ) (b : Bool) (r : Result ℤ E) → is_decimal s ≡ true → is_whole (signed_digits_value 10 s) ≡ b → ParsesSigned w64 10 s r → result_ok r ≡ (if b then Some (signed_digits_value 10 s) else None)
read_as s true (Ok z) d is h = ap Some (h.1)
read_as s false (Ok z) d is h = absurd (true≢false (sym (fits_whole _ h.0.1) ∙ is))
read_as s true (Err e) d is h = absurd (h (decimal_numeral s d, whole_fits _ is))
read_as s false (Err e) d is h = refl

-- what `parse` reads of a decimal
pub parsed : {E : Type 0} (s : List ℕ) (r : Result ℤ E) → is_decimal s ≡ true → ParsesSigned w64 10 s r → result_ok r ≡ number_of s
parsed s r d h = rw d (read_as s (is_whole (signed_digits_value 10 s)) r d refl h)

-- ---- lines

behind : (b : Bool) (l : List ℕ) (ks ls : List (List ℕ)) → l ∷ (if b then ks else ls) ≡ (if b then l ∷ ks else l ∷ ls)
behind true l ks ls = refl
behind false l ks ls = refl

last_cut : {A : Type 0} (f : A → List ℕ) (xs : List A) (i : ℕ) (d : A) → length xs ≡ suc i
    → without_empty_last (map f xs) ≡ (if length (f (get_or xs i d)) == 0 then map f (take i xs) else map f xs)
last_cut f [] i d h = absurd (omega arith)
last_cut f (y ∷ []) zero d h = refl
last_cut f (y ∷ []) (suc i) d h = absurd (omega arith)
last_cut f (y ∷ z ∷ ys) zero d h = absurd (omega arith)
last_cut f (y ∷ z ∷ ys) (suc i) d h =
    ap (λ ls. f y ∷ ls) (last_cut f (z ∷ ys) i d (omega arith)) ∙ behind (length (f (get_or (z ∷ ys) i d)) == 0) (f y) (map f (take i (z ∷ ys))) (map f (z ∷ ys))

-- an empty last line is left out, and no other
pub cut_last : {A : Type 0} (f : A → List ℕ) (xs : List A) (i : ℕ) (d : A) (b : Bool) → length xs ≡ suc i → (length (f (get_or xs i d)) == 0) ≡ b
    → without_empty_last (map f xs) ≡ (if b then map f (take i xs) else map f xs)
cut_last f xs i d b h is = last_cut f xs i d h ∙ ap (λ e. if e then map f (take i xs) else map f xs) is

-- ---- lines as texts

-- a line that is no text is no definition
undefined : (l : List ℕ) (o : Option (List ℕ × ℤ)) → is_utf8 l ≡ false → definition_of l ≡ o → None ≡ o
undefined l None is e = refl
undefined l (Some d) is e = absurd (true≢false (sym (is_utf8-from_IsUtf8 l (low_utf8 l (defined_low l d e))) ∙ is))

as_text-defined : (l : List ℕ) → definition_of (as_text l) ≡ definition_of l
as_text-defined l = by (is_utf8 l) refl
  where
    by : (b : Bool) → is_utf8 l ≡ b → definition_of (if b then l else []) ≡ definition_of l
    by true is = refl
    by false is = undefined l (definition_of l) is refl

as_text-same : (l n : List ℕ) → defines l n ≡ true → as_text l ≡ l
as_text-same l n e = by (definition_of l) refl e
  where
    by : (o : Option (List ℕ × ℤ)) → definition_of l ≡ o → name_is n o ≡ true → as_text l ≡ l
    by None is h = absurd (true≢false (sym h))
    by (Some d) is h = ap (λ b. if b then l else []) (is_utf8-from_IsUtf8 l (low_utf8 l (defined_low l d is)))

chosen : {A : Type 0} (b c : Bool) (x y u v : A) → b ≡ c → (c ≡ true → x ≡ y) → u ≡ v → (if b then x else u) ≡ (if c then y else v)
chosen true true x y u v e h k = h refl
chosen false false x y u v e h k = k
chosen true false x y u v e h k = absurd (true≢false e)
chosen false true x y u v e h k = absurd (true≢false (sym e))

-- the code of a name is the same among the texts
pub code_in-texts : (ls : List (List ℕ)) (n : List ℕ) → code_in (map as_text ls) n ≡ code_in ls n
code_in-texts [] n = refl
code_in-texts (l ∷ ls) n =
    chosen (defines (as_text l) n) (defines l n) (Some (as_text l)) (Some l) _ _ (ap (name_is n) (as_text-defined l)) (λ is. ap Some (as_text-same l n is)) (code_in-texts ls n)

-- and the number of its line
pub line_in-texts : (ls : List (List ℕ)) (at : ℕ) (n : List ℕ) → line_in at (map as_text ls) n ≡ line_in at ls n
line_in-texts [] at n = refl
line_in-texts (l ∷ ls) at n =
    chosen (defines (as_text l) n) (defines l n) at at _ _ (ap (name_is n) (as_text-defined l)) (λ is. refl) (line_in-texts ls (suc at) n)

kind_among-texts : (before : List (List ℕ)) (o : Option (List ℕ × ℤ)) → kind_among (map as_text before) o ≡ kind_among before o
kind_among-texts before None = refl
kind_among-texts before (Some d) = ap (λ o. if is_some o then Some Twice else None) (code_in-texts before d.0)

line_fault-texts : (before : List (List ℕ)) (l : List ℕ) → line_fault (map as_text before) (as_text l) ≡ line_fault before l
line_fault-texts before l = ap (kind_among (map as_text before)) (as_text-defined l) ∙ kind_among-texts before (definition_of l)

-- and the first fault
pub fault_in-texts : (ls before : List (List ℕ)) (at : ℕ) → fault_in (map as_text before) at (map as_text ls) ≡ fault_in before at ls
fault_in-texts [] before at = refl
fault_in-texts (l ∷ ls) before at =
    ap₂ (or_later at) (line_fault-texts before l)
    (ap (λ bs. fault_in bs (suc at) (map as_text ls)) (sym (map-append as_text before (l ∷ []))) ∙ fault_in-texts ls (before ++ l ∷ []) (suc at))

-- pieces of a module as texts
pub map-pieces : (ps : List (Bor (List ℕ))) → map (λ p. as_text p.now) ps ≡ map as_text (map (λ p. p.now) ps)
map-pieces [] = refl
map-pieces (p ∷ ps) = ap (λ ls. as_text p.now ∷ ls) (map-pieces ps)
