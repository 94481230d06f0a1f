-- A code that was written is the same code.
use Rattle.std.proofs.Common.{◌≡◌, ℕ, ◌+◌, ◌<◌, ◌^◌, ◌==◌, List, [], ◌∷◌, ◌++◌, length, Bool, true, nat_le, if◌then◌else◌, refl, sym, ap, ◌∙◌, arith, append_assoc, length-append, decimal}
use Rattle.std.proofs.lemmas.Bool.Decides.{nat_tests}
use Rattle.std.proofs.lemmas.Fmt.{decimal_is_IsNumeral, decimal_nonempty, length-decimal-le}
use Rattle.std.proofs.lemmas.List.{append_cancel_right}
use Rattle.std.proofs.lemmas.Str.Parse.{digit_from_value}
use Rattle.std.specs.Char.{is_ascii_digit}
use Rattle.std.specs.List.{position_or_len, before_first, after_first, list_all}
use Rattle.std.specs.Str.Parse.{AllDigits}
use Rattle.jl_entry.specs.Codes.{line_words, code_text, is_line_number, is_number_line, without_number_line, IsSameCode}
use Rattle.jl_entry.proofs.DecimalEnds.{cut_here, stop_behind, decimal_end, no_cut}

-- digits pass the test of digits
digits_pass : (ds : List ℕ) → AllDigits 10 ds → list_all is_ascii_digit ds ≡ true
digits_pass [] all = refl
digits_pass (d ∷ ds) all =
    let range = digit_from_value d all.0 in
    let here : is_ascii_digit d ≡ true = grind (arith, nat_tests) in
    rw (here, digits_pass ds all.1) refl

-- a number of 64 bits has 1 to 20 digits
decimal_counts : (line : ℕ) → line < 2 ^ 64 → is_line_number (decimal line) ≡ true
decimal_counts line small =
    let is = decimal_is_IsNumeral line small in
    let some = decimal_nonempty line small in
    let few = length-decimal-le 20 line (omega arith) (omega arith) small in
    let low : nat_le 1 (length (decimal line)) ≡ true = grind (arith, nat_tests) in
    let high : nat_le (length (decimal line)) 20 ≡ true = grind (arith, nat_tests) in
    rw (low, high, digits_pass (decimal line) is.0.1) refl

-- the first line that is written is such a line
number_line : (line : ℕ) → line < 2 ^ 64 → is_number_line (line_words ++ decimal line) ≡ true
number_line line small = decimal_counts line small

-- what was written is the same code
pub same_written : (code : List ℕ) (line : ℕ) → line < 2 ^ 64 → IsSameCode code (code_text code line)
same_written code line small =
    let tail = code ++ 10 ∷ [] in
    let front = line_words ++ decimal line in
    let all = front ++ 10 ∷ tail in
    let spelled : code_text code line ≡ all = sym (append_assoc line_words (decimal line) (10 ∷ tail)) in
    let there : position_or_len (λ b. b == 10) (code_text code line) ≡ length line_words + length (decimal line) =
    stop_behind line_words (decimal line ++ 10 ∷ tail) 10 refl ∙ ap (λ k. length line_words + k) (decimal_end line 10 tail small (λ h. omega arith)) in
    let cut = cut_here front tail 10 (ap (position_or_len (λ b. b == 10)) (sym spelled) ∙ there ∙ sym (length-append line_words (decimal line))) in
    let first : is_number_line (before_first (λ b. b == 10) all) ≡ true = ap is_number_line cut.0 ∙ number_line line small in
    ap without_number_line spelled ∙ ap (λ (b : Bool). if b then after_first (λ b. b == 10) all else all) first ∙ cut.1

-- bytes are the same code as one code at most
pub same_code_once : (a b bytes : List ℕ) → IsSameCode a bytes → IsSameCode b bytes → a ≡ b
same_code_once a b bytes h k = append_cancel_right a b (10 ∷ []) (sym h ∙ k)

-- bytes with no newline are one line
pub one_line : (bytes : List ℕ) → position_or_len (λ b. b == 10) bytes ≡ length bytes
    → (if is_number_line bytes then [] else bytes) ≡ without_number_line bytes
one_line bytes h =
    let cut = no_cut (λ b. b == 10) bytes h in
    λ i. if is_number_line (sym cut.0 i) then sym cut.1 i else bytes
