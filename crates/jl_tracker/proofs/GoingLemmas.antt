-- The tracker goes on, line by line.
use Rattle.std.proofs.Common.{◌≡◌, ℕ, suc, ◌+◌, ◌<◌, ◌≤◌, ◌⊎◌, inl, inr, List, [], ◌∷◌, ◌++◌, true, false, ◌||◌, cond, Option, Some, None, length, nat_lt, true≢false, sym, ◌∙◌, ap, subst, refl, arith}
use Rattle.std.proofs.lemmas.List.{append-nil, append_assoc}
use Rattle.jl_text.specs.declared.limits.TheConstants.{MOST_LINE_BYTES}
use Rattle.jl_lines.specs.Lines.{is_newline, has_newline, first_line, behind_line, body_of, put_before, lines_of}
use Rattle.jl_lines.proofs.LineLemmas.{behind_line_all}
use Rattle.std.proofs.lemmas.Bool.Decides.{Decides-ltb, leb_tells}
use Rattle.jl_tracker.specs.TrackerLines.{LineView, IsTrackerLine}
use Rattle.jl_tracker.specs.Counting.{CountsView}
use Rattle.jl_tracker.specs.Effects.{IsReading, IsLineReading, AreReadings, line_effects, after_read, effects_from, counts_after}
use Rattle.jl_tracker.specs.Tracking.{LinesSeen, SeenAll}

-- a line and what stands behind it are the bytes
pub line_split : (bs : List ℕ) → first_line bs ++ behind_line bs ≡ bs
line_split [] = refl
line_split (b ∷ bs) =
    let more = line_split bs in
    elim (is_newline b) as (λ v. b ∷ (cond v [] (first_line bs) ++ cond v bs (behind_line bs)) ≡ b ∷ bs) [ true ↦ refl | false ↦ ap (λ l. b ∷ l) more ]

-- a line alone
line_alone : (bs : List ℕ) → 0 < length bs → lines_of (first_line bs) ≡ first_line bs ∷ []
line_alone [] lt = absurd (omega (arith, lt))
line_alone (b ∷ []) lt = elim (is_newline b) as (λ v. is_newline b ≡ v → lines_of (b ∷ cond v [] []) ≡ (b ∷ cond v [] []) ∷ []) [
  | true ↦ λ e. ap (λ v. cond v ((b ∷ []) ∷ []) ((b ∷ []) ∷ [])) e
  | false ↦ λ e. ap (λ v. cond v ((b ∷ []) ∷ []) ((b ∷ []) ∷ [])) e
] refl
line_alone (b ∷ x ∷ xs) lt =
    let more = line_alone (x ∷ xs) (omega arith) in
    elim (is_newline b) as (λ v. is_newline b ≡ v → lines_of (b ∷ cond v [] (first_line (x ∷ xs))) ≡ (b ∷ cond v [] (first_line (x ∷ xs))) ∷ []) [
      | true ↦ λ e. ap (λ v. cond v ((b ∷ []) ∷ []) ((b ∷ []) ∷ [])) e
      | false ↦ λ e. ap (λ v. cond v ((b ∷ []) ∷ lines_of (first_line (x ∷ xs))) (put_before b (lines_of (first_line (x ∷ xs))))) e ∙ ap (put_before b) more
    ] refl

-- a whole line, and what comes behind
whole_line : (bs more : List ℕ) → has_newline bs ≡ true → lines_of (first_line bs ++ more) ≡ first_line bs ∷ lines_of more
whole_line [] more there = absurd (true≢false (sym there))
whole_line (b ∷ bs) more there = elim (is_newline b) as (λ v. is_newline b ≡ v → (v || has_newline bs) ≡ true → lines_of (b ∷ (cond v [] (first_line bs) ++ more)) ≡ (b ∷ cond v [] (first_line bs)) ∷ lines_of more) [
  | true ↦ λ e h. ap (λ v. cond v ((b ∷ []) ∷ lines_of more) (put_before b (lines_of more))) e
  | false ↦ λ e h. ap (λ v. cond v ((b ∷ []) ∷ lines_of (first_line bs ++ more)) (put_before b (lines_of (first_line bs ++ more)))) e ∙ ap (put_before b) (whole_line bs more h)
] refl there

-- the body of the first line
body_first : (bs : List ℕ) → body_of (first_line bs) ≡ body_of bs
body_first [] = refl
body_first (b ∷ bs) =
    let more = body_first bs in
    elim (is_newline b) as (λ v. is_newline b ≡ v → body_of (b ∷ cond v [] (first_line bs)) ≡ cond v [] (b ∷ body_of bs)) [
      | true ↦ λ e. ap (λ v. cond v [] (b ∷ [])) e
      | false ↦ λ e. ap (λ v. cond v [] (b ∷ body_of (first_line bs))) e ∙ ap (λ l. b ∷ l) more
    ] refl

-- a line that was taken, behind the others
line_behind : (w got left₁ left₂ w' : List ℕ) → left₁ ≡ got ++ left₂ → w' ≡ behind_line (w ++ got) → w ++ left₁ ≡ first_line (w ++ got) ++ (w' ++ left₂)
line_behind w got left₁ left₂ w' took next =
    ap (λ l. w ++ l) took ∙ sym (append_assoc w got left₂) ∙ ap (λ l. l ++ left₂) (sym (line_split (w ++ got)))
    ∙ append_assoc (first_line (w ++ got)) (behind_line (w ++ got)) left₂ ∙ ap (λ l. first_line (w ++ got) ++ (l ++ left₂)) (sym next)

-- one more line was seen, with its newline
pub seen_line : (lines : List (List ℕ)) (left w got left₁ left₂ w' : List ℕ) → LinesSeen lines left (w ++ left₁) → left₁ ≡ got ++ left₂ → 0 < length (w ++ got) → has_newline (w ++ got) ≡ true → w' ≡ behind_line (w ++ got)
    → LinesSeen (lines ++ first_line (w ++ got) ∷ []) left (w' ++ left₂)
seen_line lines left w got left₁ left₂ w' s took some there next = record {
  input = s.input ++ first_line (w ++ got);
  left_is = s.left_is ∙ ap (λ l. s.input ++ l) (line_behind w got left₁ left₂ w' took next) ∙ sym (append_assoc s.input (first_line (w ++ got)) (w' ++ left₂));
  lines_is = ap (λ l. l ++ first_line (w ++ got) ∷ []) s.lines_is ∙ sym (s.ends (first_line (w ++ got)) ∙ ap (λ l. lines_of s.input ++ l) (line_alone (w ++ got) some));
  ends = λ more.
      ap lines_of (append_assoc s.input (first_line (w ++ got)) more)
      ∙ s.ends (first_line (w ++ got) ++ more)
      ∙ ap (λ l. lines_of s.input ++ l) (whole_line (w ++ got) more there)
      ∙ ap (λ l. lines_of s.input ++ (l ++ lines_of more)) (sym (line_alone (w ++ got) some))
      ∙ sym (append_assoc (lines_of s.input) (lines_of (first_line (w ++ got))) (lines_of more))
      ∙ ap (λ l. l ++ lines_of more) (sym (s.ends (first_line (w ++ got))));
}

-- the last line was seen, which has no newline
pub seen_last : (lines : List (List ℕ)) (left w got left₁ left₂ w' : List ℕ) → LinesSeen lines left (w ++ left₁) → left₁ ≡ got ++ left₂ → 0 < length (w ++ got) → has_newline (w ++ got) ≡ false → left₂ ≡ [] → w' ≡ behind_line (w ++ got)
    → SeenAll (lines ++ first_line (w ++ got) ∷ []) left (w' ++ left₂)
seen_last lines left w got left₁ left₂ w' s took some none end next = (
  ap (λ l. l ++ first_line (w ++ got) ∷ []) s.lines_is ∙ ap (λ l. lines_of s.input ++ l) (sym (line_alone (w ++ got) some)) ∙ sym (s.ends (first_line (w ++ got))) ∙ ap lines_of (sym all),
  nothing,
)
  where
    nothing : w' ++ left₂ ≡ []
    nothing = λ i. (next ∙ behind_line_all (w ++ got) none) i ++ end i

    all : left ≡ s.input ++ first_line (w ++ got)
    all = s.left_is ∙ ap (λ l. s.input ++ l) (line_behind w got left₁ left₂ w' took next ∙ ap (λ l. first_line (w ++ got) ++ l) nothing ∙ append-nil (first_line (w ++ got)))

-- one more line was seen, with its newline, or as the last one without
pub seen_either : (lines : List (List ℕ)) (left w got left₁ left₂ w' : List ℕ) → LinesSeen lines left (w ++ left₁) → left₁ ≡ got ++ left₂ → 0 < length (w ++ got) → (has_newline (w ++ got) ≡ false → left₂ ≡ []) → w' ≡ behind_line (w ++ got)
    → LinesSeen (lines ++ first_line (w ++ got) ∷ []) left (w' ++ left₂) ⊎ SeenAll (lines ++ first_line (w ++ got) ∷ []) left (w' ++ left₂)
seen_either lines left w got left₁ left₂ w' s took some end next =
    elim (has_newline (w ++ got)) as (λ v. has_newline (w ++ got) ≡ v → LinesSeen (lines ++ first_line (w ++ got) ∷ []) left (w' ++ left₂) ⊎ SeenAll (lines ++ first_line (w ++ got) ∷ []) left (w' ++ left₂)) [
      | true ↦ λ there. inl (seen_line lines left w got left₁ left₂ w' s took some there next)
      | false ↦ λ none. inr (seen_last lines left w got left₁ left₂ w' s took some none (end none) next)
    ] refl

-- one more reading
pub readings_push : (lines : List (List ℕ)) (rs : List (Option LineView)) (l : List ℕ) (r : Option LineView) → AreReadings lines rs → IsLineReading l r → AreReadings (lines ++ l ∷ []) (rs ++ r ∷ [])
readings_push [] [] l r h one = (one, tt)
readings_push [] (x ∷ xs) l r h one = absurd h
readings_push (x ∷ xs) [] l r h one = absurd h
readings_push (x ∷ xs) (y ∷ ys) l r h one = (h.0, readings_push xs ys l r h.1 one)

-- the counts after one more reading
pub counts_push : (v : CountsView) (rs : List (Option LineView)) (r : Option LineView) → counts_after v (rs ++ r ∷ []) ≡ after_read r (counts_after v rs)
counts_push v [] r = refl
counts_push v (x ∷ xs) r = counts_push (after_read x v) xs r

-- the effects of one more reading
pub effects_push : (n : ℕ) (v : CountsView) (rs : List (Option LineView)) (r : Option LineView) → effects_from n v (rs ++ r ∷ []) ≡ effects_from n v rs ++ line_effects (n + length rs) r (counts_after v rs)
effects_push n v [] r = append-nil (line_effects n r v) ∙ (let e : n ≡ n + 0 = omega arith in ap (λ k. line_effects k r v) e)
effects_push n v (x ∷ xs) r =
    let e : n + 1 + length xs ≡ n + suc (length xs) = omega arith in
    ap (λ l. line_effects n x v ++ l) (effects_push (n + 1) (after_read x v) xs r ∙ ap (λ k. effects_from (n + 1) (after_read x v) xs ++ line_effects k r (counts_after (after_read x v) xs)) e)
    ∙ sym (append_assoc (line_effects n x v) (effects_from (n + 1) (after_read x v) xs) (line_effects (n + suc (length xs)) r (counts_after (after_read x v) xs)))

-- a line that is not too long and was read
pub line_reading : (bs body : List ℕ) (r : Option LineView) → body ≡ body_of bs → nat_lt MOST_LINE_BYTES (length (first_line bs)) ≡ false → IsReading body r → IsLineReading (first_line bs) r
line_reading bs body (Some said) is short h = (within (length (first_line bs)) short, subst (λ l. IsTrackerLine l said) (is ∙ sym (body_first bs)) h)
  where
    within : (n : ℕ) → nat_lt MOST_LINE_BYTES n ≡ false → n ≤ MOST_LINE_BYTES
    within n e = elim (leb_tells n MOST_LINE_BYTES) [
      | inl p ↦ p.1
      | inr p ↦ absurd (true≢false (sym ((Decides-ltb MOST_LINE_BYTES n).1 p.1) ∙ e))
    ]
line_reading bs body None is short h = inr (λ said k. h said (subst (λ l. IsTrackerLine l said) (body_first bs ∙ sym is) k))
