-- The lines of a text, and what is dropped at their ends.
use Rattle.std.proofs.Common.{◌≡◌, ◌≢◌, ℕ, zero, suc, ◌+◌, ◌-◌, ◌<◌, ◌≤◌, true, false, List, [], ◌∷◌, length, get_or, take, drop, refl, sym, ap, ◌∙◌, subst, arith, length-drop, add-one}
use Rattle.std.specs.List.{onto_first}
use Rattle.std.specs.Prelude.{nat_eq}
use Rattle.std.specs.Str.{is_utf8}
use Rattle.jl_lexer.specs.Signs.{signs, begins_word}
use Rattle.jl_lexer.proofs.SignLemmas.{rest_is}
use Rattle.jl_module.specs.Modules.{lines, is_trailing, before_end, trimmed, begins_definition, defines_in}

newline : (b : ℕ) (bs : List ℕ) → b ≡ 10 → lines (b ∷ bs) ≡ [] ∷ lines bs
newline b bs e = let t : nat_eq b 10 ≡ true = grind arith in rw t

other : (b : ℕ) (bs : List ℕ) → b ≢ 10 → lines (b ∷ bs) ≡ onto_first b (lines bs)
other b bs e = let t : nat_eq b 10 ≡ false = grind arith in rw t

-- the first newline ends the first line
pub line_at : (s : List ℕ) (n : ℕ) → n < length s → get_or s n 0 ≡ 10 → ((k : ℕ) → k < n → get_or s k 0 ≢ 10) → lines s ≡ take n s ∷ lines (drop (suc n) s)
line_at [] n h e before = absurd (omega arith)
line_at (b ∷ bs) zero h e before = newline b bs e
line_at (b ∷ bs) (suc n) h e before =
    other b bs (before 0 (omega arith))
    ∙ ap (onto_first b) (line_at bs n (omega arith) e (λ k below. before (suc k) (omega arith)))

-- a text with no newline is one line
pub line_alone : (s : List ℕ) → ((k : ℕ) → k < length s → get_or s k 0 ≢ 10) → lines s ≡ s ∷ []
line_alone [] before = refl
line_alone (b ∷ bs) before =
    other b bs (before 0 (omega arith))
    ∙ ap (onto_first b) (line_alone bs (λ k below. before (suc k) (omega arith)))

-- a byte that is dropped
pub trimmed_more : (s : List ℕ) (n : ℕ) → n < length s → is_trailing (get_or s n 0) ≡ true → trimmed (take (suc n) s) ≡ trimmed (take n s)
trimmed_more [] n h e = absurd (omega arith)
trimmed_more (b ∷ bs) zero h e = rw e
trimmed_more (b ∷ bs) (suc n) h e = ap (before_end b) (trimmed_more bs n (omega arith) e)

-- a byte that stays, with those before it
pub trimmed_kept : (s : List ℕ) (n : ℕ) → n < length s → is_trailing (get_or s n 0) ≡ false → trimmed (take (suc n) s) ≡ take (suc n) s
trimmed_kept [] n h e = absurd (omega arith)
trimmed_kept (b ∷ bs) zero h e = rw e
trimmed_kept (b ∷ []) (suc n) h e = absurd (omega arith)
trimmed_kept (b ∷ c ∷ cs) (suc n) h e = ap (before_end b) (trimmed_kept (c ∷ cs) n (omega arith) e)

pub trimmed_less : (s : List ℕ) (m e : ℕ) → suc m ≡ e → e ≤ length s → is_trailing (get_or s m 0) ≡ true → trimmed (take m s) ≡ trimmed (take e s)
trimmed_less s m e same h t = sym (trimmed_more s m (omega arith) t) ∙ ap (λ k. trimmed (take k s)) same

pub trimmed_here : (s : List ℕ) (m e : ℕ) → suc m ≡ e → e ≤ length s → is_trailing (get_or s m 0) ≡ false → trimmed (take e s) ≡ take e s
trimmed_here s m e same h t = subst (λ k. trimmed (take k s) ≡ take k s) same (trimmed_kept s m (omega arith) t)

-- the first line and the rest, as they are sliced
pub line_split : (s : List ℕ) (n : ℕ) → n < length s → get_or s n 0 ≡ 10 → ((k : ℕ) → k < n → get_or s k 0 ≢ 10) → (lines s ≡ take n s ∷ lines (take (length s - (n + 1)) (drop (n + 1) s))) × (length (take (length s - (n + 1)) (drop (n + 1) s)) < length s)
line_split s n h e before =
    let rest = rest_is s (suc n) in (
      rw (add-one n) (line_at s n h e before ∙ ap (λ r. take n s ∷ lines r) (sym rest)),
      rw (add-one n) (subst (λ (r : List ℕ). length r < length s) (sym rest) (omega (arith, length-drop (suc n) s))),
    )

pub begins_by : (name code : List ℕ) → is_utf8 code ≡ true → begins_word code ≡ true → defines_in name (signs code) ≡ true → begins_definition name code ≡ true
begins_by name code a b d = rw (a, b, d)

pub begins_not : (name code : List ℕ) → is_utf8 code ≡ false → begins_definition name code ≡ false
begins_not name code a = rw a
