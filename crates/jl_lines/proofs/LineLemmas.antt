-- Bytes before and behind the first newline.
use Rattle.std.proofs.Common.{◌≡◌, ℕ, suc, inl, inr, ◌+◌, ◌-◌, ◌<◌, ◌≤◌, List, [], ◌∷◌, ◌++◌, true, false, ◌||◌, not, cond, nat_lt, length, take, drop, sym, ◌∙◌, ap, subst, refl, arith, length-take, true≢false, Option, None, Some}
use Rattle.std.proofs.lemmas.List.{append-nil, drop-take, drop-drop}
use Rattle.std.specs.List.{position_or_len, position}
use Rattle.std.proofs.lemmas.List.Folds.{list_any-append}
use Rattle.std.proofs.lemmas.Bool.Decides.{Decides-ltb, leb_tells}
use Rattle.jl_lines.specs.Lines.{is_newline, has_newline, first_line, behind_line, body_of}
use Rattle.jl_lines.specs.Steps.{EndsAt}

-- what is left of a part after its front is passed over
pub pass_is : (xs : List ℕ) (a e c : ℕ) → c ≤ length (take (e - a) (drop a xs)) → take (e - (a + c)) (drop (a + c) xs) ≡ drop c (take (e - a) (drop a xs))
pass_is xs a e c le =
    let here : e - a ≡ c + (e - (a + c)) = omega (arith, length-take (e - a) (drop a xs), le) in
    ap (take (e - (a + c))) (sym (drop-drop c a xs)) ∙ sym (ap (λ n. drop c (take n (drop a xs))) here ∙ drop-take c (e - (a + c)) (drop a xs))

-- before a newline
pub none_first : (b : ℕ) (bs : List ℕ) → has_newline (b ∷ bs) ≡ false → (is_newline b ≡ false) × (has_newline bs ≡ false)
none_first b bs none = elim (is_newline b) as (λ v. (v || has_newline bs) ≡ false → (v ≡ false) × (has_newline bs ≡ false)) [
  | true ↦ λ h. absurd (true≢false h)
  | false ↦ λ h. (refl, h)
] none

-- bytes without a newline stand at the front of the first line
pub first_line-append : (s t : List ℕ) → has_newline s ≡ false → first_line (s ++ t) ≡ s ++ first_line t
first_line-append [] t none = refl
first_line-append (b ∷ bs) t none = let h = none_first b bs none in ap (λ v. b ∷ cond v [] (first_line (bs ++ t))) h.0 ∙ ap (λ l. b ∷ l) (first_line-append bs t h.1)

-- what comes behind the first line doesn't begin among them
pub behind_line-append : (s t : List ℕ) → has_newline s ≡ false → behind_line (s ++ t) ≡ behind_line t
behind_line-append [] t none = refl
behind_line-append (b ∷ bs) t none = let h = none_first b bs none in ap (λ v. cond v (bs ++ t) (behind_line (bs ++ t))) h.0 ∙ behind_line-append bs t h.1

-- the same of the first line without its newline
pub body_of-append : (s t : List ℕ) → has_newline s ≡ false → body_of (s ++ t) ≡ s ++ body_of t
body_of-append [] t none = refl
body_of-append (b ∷ bs) t none = let h = none_first b bs none in ap (λ v. cond v [] (b ∷ body_of (bs ++ t))) h.0 ∙ ap (λ l. b ∷ l) (body_of-append bs t h.1)

-- a newline stands among the others, if anywhere
pub has_newline-append : (s t : List ℕ) → has_newline s ≡ false → has_newline (s ++ t) ≡ has_newline t
has_newline-append s t none = list_any-append is_newline s t ∙ ap (λ v. v || has_newline t) none

-- bytes without a newline are one line
pub first_line_all : (s : List ℕ) → has_newline s ≡ false → first_line s ≡ s
first_line_all s none = ap first_line (sym (append-nil s)) ∙ first_line-append s [] none ∙ append-nil s

-- the same of a line without its newline
pub body_of_all : (s : List ℕ) → has_newline s ≡ false → body_of s ≡ s
body_of_all s none = ap body_of (sym (append-nil s)) ∙ body_of-append s [] none ∙ append-nil s

-- nothing comes behind it
pub behind_line_all : (s : List ℕ) → has_newline s ≡ false → behind_line s ≡ []
behind_line_all s none = ap behind_line (sym (append-nil s)) ∙ behind_line-append s [] none

-- the first line ends at the first newline
ends : (bs : List ℕ) → position_or_len is_newline bs < length bs → EndsAt bs (suc (position_or_len is_newline bs))
ends [] lt = absurd (omega (arith, lt))
ends (b ∷ bs) lt = elim (is_newline b) as (λ v. is_newline b ≡ v → cond (not v) (1 + position_or_len is_newline bs) 0 < length (b ∷ bs) → EndsAt (b ∷ bs) (suc (cond (not v) (1 + position_or_len is_newline bs) 0))) [
  | true ↦ λ here lt. record {
    some = omega arith;
    within = omega (arith, lt);
    there = ap (λ v. v || has_newline bs) here;
    first = ap (λ v. b ∷ cond v [] (first_line bs)) here;
    body = ap (λ v. cond v [] (b ∷ body_of bs)) here;
    behind = ap (λ v. cond v bs (behind_line bs)) here;
  }
  | false ↦ λ here lt.
      let n = position_or_len is_newline bs in
      let later : n < length bs = omega (arith, lt) in
      let more = ends bs later in
      let e : suc n ≡ 1 + n = omega arith in
      let less : suc n - 1 ≡ n = omega arith in
      let last : suc n ≡ suc (1 + n) - 1 = omega arith in record {
        some = omega arith;
        within = omega (arith, lt);
        there = ap (λ v. v || has_newline bs) here ∙ more.there;
        first = ap (λ v. b ∷ cond v [] (first_line bs)) here ∙ ap (λ l. b ∷ l) (more.first ∙ ap (λ k. take k bs) e);
        body = ap (λ v. cond v [] (b ∷ body_of bs)) here ∙ ap (λ l. b ∷ l) (more.body ∙ ap (λ k. take k bs) less) ∙ ap (λ k. take k (b ∷ bs)) last;
        behind = ap (λ v. cond v bs (behind_line bs)) here ∙ more.behind ∙ ap (λ k. drop k bs) e;
      }
] refl lt

-- where no newline is found there is none
none_there : (bs : List ℕ) → length bs ≤ position_or_len is_newline bs → has_newline bs ≡ false
none_there [] le = refl
none_there (b ∷ bs) le = elim (is_newline b) as (λ v. length (b ∷ bs) ≤ cond (not v) (1 + position_or_len is_newline bs) 0 → (v || has_newline bs) ≡ false) [
  | true ↦ λ le. absurd (omega (arith, le))
  | false ↦ λ le. none_there bs (omega (arith, le))
] le

-- a newline that was found ends the first line
pub position-some : (bs : List ℕ) (k : ℕ) → position is_newline bs ≡ Some k → EndsAt bs (k + 1)
position-some bs k is = elim (nat_lt (position_or_len is_newline bs) (length bs)) as (λ v. nat_lt (position_or_len is_newline bs) (length bs) ≡ v → cond v (Some (position_or_len is_newline bs)) None ≡ Some k → EndsAt bs (k + 1)) [
  | true ↦ λ t e.
      let same : suc (position_or_len is_newline bs) ≡ k + 1 = some_next _ _ e in
      subst (EndsAt bs) same (ends bs ((Decides-ltb (position_or_len is_newline bs) (length bs)).0 t))
  | false ↦ λ t e. absurd (none_some _ e)
] refl is
  where
    some_next : (a b : ℕ) → Some a ≡ Some b → suc a ≡ b + 1
    some_next a b e = let f : a ≡ b = cc in omega (arith, f)

    none_some : (b : ℕ) → ◌≡◌ {A = Option ℕ} None (Some b) → ⊥
    none_some b e = cc

-- no newline was found, and there is none
pub position-none : (bs : List ℕ) → position is_newline bs ≡ None → has_newline bs ≡ false
position-none bs is = elim (nat_lt (position_or_len is_newline bs) (length bs)) as (λ v. nat_lt (position_or_len is_newline bs) (length bs) ≡ v → cond v (Some (position_or_len is_newline bs)) None ≡ None → has_newline bs ≡ false) [
  | true ↦ λ t e. absurd (some_none _ e)
  | false ↦ λ t e. elim (leb_tells (length bs) (position_or_len is_newline bs)) [
    | inl p ↦ none_there bs p.1
    | inr p ↦ absurd (true≢false (sym ((Decides-ltb (position_or_len is_newline bs) (length bs)).1 p.1) ∙ t))
  ]
] refl is
  where
    some_none : (b : ℕ) → ◌≡◌ {A = Option ℕ} (Some b) None → ⊥
    some_none b e = cc
