-- The lines of bytes, by the first of them.
use Rattle.std.proofs.Common.{◌≡◌, ℕ, ◌<◌, ◌≤◌, inl, inr, List, [], ◌∷◌, ◌++◌, Bool, true, false, ◌||◌, not, cond, nat_lt, length, sym, ◌∙◌, ap, refl, arith, length-append, true≢false}
use Rattle.std.proofs.lemmas.List.{append_assoc, append-nil}
use Rattle.std.proofs.lemmas.Bool.Decides.{Decides-ltb, leb_tells}
use Rattle.jl_streams.specs.Views.{SourceView}
use Rattle.jl_lines.specs.declared.reader.NextLine.{NextLine}
use Rattle.jl_lines.specs.declared.reader.NextLine.TheVariants as next_line
use Rattle.jl_lines.specs.Lines.{is_newline, has_newline, first_line, behind_line, body_of, put_before, lines_of}
use Rattle.jl_lines.specs.Steps.{ReaderView, waiting, is_long, KnowsEnd, AnswersOver, NextStep, LeftIs, TakesLine}
use Rattle.jl_lines.proofs.StepLemmas.{of_or}

-- bytes that aren't none have a first line
pub lines_first : (bs : List ℕ) → 0 < length bs → lines_of bs ≡ first_line bs ∷ lines_of (behind_line bs)
lines_first [] lt = absurd (omega (arith, lt))
lines_first (b ∷ []) lt = elim (is_newline b) as (λ v. cond v ((b ∷ []) ∷ []) ((b ∷ []) ∷ []) ≡ (b ∷ cond v [] []) ∷ lines_of (cond v [] [])) [ true ↦ refl | false ↦ refl ]
lines_first (b ∷ x ∷ xs) lt =
    let more = lines_first (x ∷ xs) (omega arith) in
    elim (is_newline b) as (λ v. cond v ((b ∷ []) ∷ lines_of (x ∷ xs)) (put_before b (lines_of (x ∷ xs))) ≡ (b ∷ cond v [] (first_line (x ∷ xs))) ∷ lines_of (cond v (x ∷ xs) (behind_line (x ∷ xs)))) [
      | true ↦ refl
      | false ↦ ap (put_before b) more
    ]

-- bytes behind the first line
pub first_line-whole : (s t : List ℕ) → has_newline s ≡ true → (first_line (s ++ t) ≡ first_line s) × (behind_line (s ++ t) ≡ behind_line s ++ t) × (body_of (s ++ t) ≡ body_of s)
first_line-whole [] t there = absurd (true≢false (sym there))
first_line-whole (b ∷ bs) t there = elim (is_newline b) as (λ v. (v || has_newline bs) ≡ true → (b ∷ cond v [] (first_line (bs ++ t)) ≡ b ∷ cond v [] (first_line bs)) × (cond v (bs ++ t) (behind_line (bs ++ t)) ≡ cond v bs (behind_line bs) ++ t) × (cond v [] (b ∷ body_of (bs ++ t)) ≡ cond v [] (b ∷ body_of bs))) [
  | true ↦ λ h. (refl, refl, refl)
  | false ↦ λ h. let r = first_line-whole bs t h in (ap (λ l. b ∷ l) r.0, r.1, ap (λ l. b ∷ l) r.2)
] there

-- the first line of bytes that are whole, or at whose end the source ends
whole_first : (bytes left' : List ℕ) → (has_newline bytes ≡ false → left' ≡ []) → (first_line (bytes ++ left') ≡ first_line bytes) × (behind_line (bytes ++ left') ≡ behind_line bytes ++ left') × (body_of (bytes ++ left') ≡ body_of bytes)
whole_first bytes left' ends = elim (has_newline bytes) as (λ v. has_newline bytes ≡ v → (first_line (bytes ++ left') ≡ first_line bytes) × (behind_line (bytes ++ left') ≡ behind_line bytes ++ left') × (body_of (bytes ++ left') ≡ body_of bytes)) [
  | true ↦ λ there. first_line-whole bytes left' there
  | false ↦ λ none.
      let nothing = ends none in
      let same : bytes ++ left' ≡ bytes = ap (λ l. bytes ++ l) nothing ∙ append-nil bytes in
      (ap first_line same, ap behind_line same ∙ sym (append-nil (behind_line bytes)) ∙ ap (λ l. behind_line bytes ++ l) (sym nothing), ap body_of same)
] refl

-- a test of which the second part passes where the first doesn't
over_of : (a : Bool) (m n : ℕ) → (a || nat_lt m n) ≡ true → a ≡ false → m < n
over_of a m n e f = (Decides-ltb m n).0 (ap (λ v. v || nat_lt m n) (sym f) ∙ e)

-- a test that doesn't pass, as an order
within_of : (m n : ℕ) → nat_lt m n ≡ false → n ≤ m
within_of m n e = elim (leb_tells n m) [
  | inl p ↦ p.1
  | inr p ↦ absurd (true≢false (sym ((Decides-ltb m n).1 p.1) ∙ e))
]

-- a step's answer is that of the lines ahead, where the source tells
pub step_follows : (old new : ReaderView) (x y : SourceView) (answer : NextLine) → x.told → KnowsEnd old x → NextStep old new x y answer → TakesLine old answer (waiting old ++ x.left) (waiting new ++ y.left)
step_follows old new x y answer t knows s = go answer (s.left_is t) s.answer_is
  where
    bytes : List ℕ
    bytes = waiting old ++ s.got

    le_by : {m n k : ℕ} → m ≡ n → n ≤ k → m ≤ k
    le_by e h = omega (arith, e, h)

    ahead : x.left ≡ s.got ++ y.left → waiting old ++ x.left ≡ (waiting old ++ s.got) ++ y.left
    ahead e = ap (λ l. waiting old ++ l) e ∙ sym (append_assoc (waiting old) s.got y.left)

    -- behind a line without a newline nothing is left
    at_end : new.ended ≡ not (has_newline bytes) → has_newline bytes ≡ false → y.left ≡ []
    at_end ended none = s.end_is t knows (ended ∙ ap not none)

    go : (answer : NextLine) → LeftIs answer s.got x y → AnswersOver old new (waiting old ++ s.got) answer → TakesLine old answer (waiting old ++ x.left) (waiting new ++ y.left)
    go (next_line.Line number body) e h =
        let all = ahead e in
        let w = whole_first (waiting old ++ s.got) y.left (at_end h.0.ended_is) in (
          lines_first (waiting old ++ x.left) (omega (arith, ap length all, length-append (waiting old ++ s.got) y.left, h.2)) ∙ ap (λ l. first_line (waiting old ++ x.left) ∷ lines_of l) (ap behind_line all ∙ w.1 ∙ ap (λ l. l ++ y.left) (sym h.0.waiting_is)),
          h.3 ∙ sym (ap body_of all ∙ w.2),
          le_by (ap length (ap first_line all ∙ w.0)) (within_of old.limit (length (first_line (waiting old ++ s.got))) (of_or _ _ h.1).1),
        )
    go (next_line.TooLong number) e h = λ short.
        let all = ahead e in
        let w = whole_first (waiting old ++ s.got) y.left (at_end h.0.ended_is) in
        let over : old.limit < length (first_line (waiting old ++ s.got)) = over_of old.long old.limit (length (first_line (waiting old ++ s.got))) h.1 short in
        let first_is : length (first_line (waiting old ++ x.left)) ≡ length (first_line (waiting old ++ s.got)) = ap length (ap first_line all ∙ w.0) in (
          lines_first (waiting old ++ x.left) (some (waiting old ++ x.left) (omega (arith, first_is, over))) ∙ ap (λ l. first_line (waiting old ++ x.left) ∷ lines_of l) (ap behind_line all ∙ w.1 ∙ ap (λ l. l ++ y.left) (sym h.0.waiting_is)),
          omega (arith, first_is, over),
        )
      where
        some : (bs : List ℕ) → 0 < length (first_line bs) → 0 < length bs
        some [] lt = lt
        some (b ∷ bs) lt = omega arith
    go next_line.End e h =
        let all = ahead e in
        let nothing : waiting new ≡ [] = h.0.waiting_is ∙ (elim (is_long old (waiting old ++ s.got)) as (λ v. cond v [] (waiting old ++ s.got) ≡ []) [ true ↦ refl | false ↦ h.2 ]) in
        let end = s.end_is t knows h.3 in
        (ap lines_of (all ∙ (λ i. h.2 i ++ end i)), ap lines_of (λ i. nothing i ++ end i))
    go next_line.TooMuch e h = tt
    go next_line.ReadFault e h = tt
    go next_line.NoMemory e h = tt
