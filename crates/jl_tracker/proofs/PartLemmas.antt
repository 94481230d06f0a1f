-- Bytes round blanks and colons.
use Rattle.std.proofs.Common.{◌≡◌, ℕ, suc, inl, inr, ◌+◌, ◌-◌, ◌<◌, ◌≤◌, List, [], ◌∷◌, ◌++◌, Bool, true, false, ◌&&◌, ◌||◌, not, cond, nat_lt, length, take, drop, get_or, sym, ◌∙◌, ap, refl, arith, drop-cons, add-one, true≢false, Option, None, Some}
use Rattle.std.proofs.lemmas.List.{take-append-drop}
use Rattle.std.proofs.lemmas.List.Folds.{list_all-append}
use Rattle.std.specs.List.{list_all, position_or_len, position}
use Rattle.std.proofs.lemmas.Bool.Decides.{Decides-ltb, Decides-eqb, leb_tells}
use Rattle.std.proofs.Math.ListN.{drop_of_length-le}
use Rattle.jl_tracker.specs.Parts.{is_blank, is_colon, has_colon, strip_end, before_first, behind_first, before_last, behind_last, CutsFirst, CutsLast}

-- the first colon
ends : (bs : List ℕ) → position_or_len is_colon bs < length bs → (has_colon bs ≡ true) × (before_first bs ≡ take (position_or_len is_colon bs) bs) × (behind_first bs ≡ drop (suc (position_or_len is_colon bs)) bs)
ends [] lt = absurd (omega (arith, lt))
ends (b ∷ bs) lt = elim (is_colon b) as (λ v. cond (not v) (1 + position_or_len is_colon bs) 0 < length (b ∷ bs) → ((v || has_colon bs) ≡ true) × (cond v [] (b ∷ before_first bs) ≡ take (cond (not v) (1 + position_or_len is_colon bs) 0) (b ∷ bs)) × (cond v bs (behind_first bs) ≡ drop (suc (cond (not v) (1 + position_or_len is_colon bs) 0)) (b ∷ bs))) [
  | true ↦ λ lt. (refl, refl, refl)
  | false ↦ λ lt.
      let n = position_or_len is_colon bs in
      let later : n < length bs = omega (arith, lt) in
      let more = ends bs later in
      let e : suc n ≡ 1 + n = omega arith in
      (more.0, ap (λ l. b ∷ l) more.1 ∙ ap (λ k. take k (b ∷ bs)) e, more.2 ∙ ap (λ k. drop k bs) e)
] lt

-- where no colon is found there is none
none_there : (bs : List ℕ) → length bs ≤ position_or_len is_colon bs → has_colon bs ≡ false
none_there [] le = refl
none_there (b ∷ bs) le = elim (is_colon b) as (λ v. length (b ∷ bs) ≤ cond (not v) (1 + position_or_len is_colon bs) 0 → (v || has_colon bs) ≡ false) [
  | true ↦ λ le. absurd (omega (arith, le))
  | false ↦ λ le. none_there bs (omega (arith, le))
] le

-- the bytes round the colon that was found
pub position-some : (bs : List ℕ) (k : ℕ) → position is_colon bs ≡ Some k → CutsFirst bs (take k bs) (drop (k + 1) bs)
position-some bs k is = elim (nat_lt (position_or_len is_colon bs) (length bs)) as (λ v. nat_lt (position_or_len is_colon bs) (length bs) ≡ v → cond v (Some (position_or_len is_colon bs)) None ≡ Some k → CutsFirst bs (take k bs) (drop (k + 1) bs)) [
  | true ↦ λ t e.
      let all = ends bs ((Decides-ltb (position_or_len is_colon bs) (length bs)).0 t) in
      record { there = all.0; before_is = sym (all.1 ∙ ap (λ n. take n bs) (same _ _ e)); behind_is = sym (all.2 ∙ ap (λ n. drop n bs) (next _ _ e)) }
  | false ↦ λ t e. absurd (none_some _ e)
] refl is
  where
    same : (a b : ℕ) → Some a ≡ Some b → a ≡ b
    same a b e = cc

    next : (a b : ℕ) → Some a ≡ Some b → suc a ≡ b + 1
    next a b e = let f : a ≡ b = cc in omega (arith, f)

    none_some : (b : ℕ) → ◌≡◌ {A = Option ℕ} None (Some b) → ⊥
    none_some b e = cc

-- the same, by the place
pub position-none : (bs : List ℕ) → position is_colon bs ≡ None → has_colon bs ≡ false
position-none bs is = elim (nat_lt (position_or_len is_colon bs) (length bs)) as (λ v. nat_lt (position_or_len is_colon bs) (length bs) ≡ v → cond v (Some (position_or_len is_colon bs)) None ≡ None → has_colon bs ≡ false) [
  | true ↦ λ t e. absurd (some_none _ e)
  | false ↦ λ t e. elim (leb_tells (length bs) (position_or_len is_colon bs)) [
    | inl p ↦ none_there bs p.1
    | inr p ↦ absurd (true≢false (sym ((Decides-ltb (position_or_len is_colon bs) (length bs)).1 p.1) ∙ t))
  ]
] refl is
  where
    some_none : (b : ℕ) → ◌≡◌ {A = Option ℕ} (Some b) None → ⊥
    some_none b e = cc

-- a colon behind which there is none
last_cut : (xs ys : List ℕ) → has_colon ys ≡ false → (has_colon (xs ++ 58 ∷ ys) ≡ true) × (before_last (xs ++ 58 ∷ ys) ≡ xs) × (behind_last (xs ++ 58 ∷ ys) ≡ ys)
last_cut [] ys none = (refl, ap (λ v. cond v (58 ∷ before_last ys) []) none, ap (λ v. cond v (behind_last ys) ys) none)
last_cut (x ∷ xs) ys none =
    let more = last_cut xs ys none in (
      ap (λ v. is_colon x || v) more.0 ∙ or_true (is_colon x),
      ap (λ v. cond v (x ∷ before_last (xs ++ 58 ∷ ys)) (cond (is_colon x) [] (x ∷ (xs ++ 58 ∷ ys)))) more.0 ∙ ap (λ l. x ∷ l) more.1,
      ap (λ v. cond v (behind_last (xs ++ 58 ∷ ys)) (cond (is_colon x) (xs ++ 58 ∷ ys) [])) more.0 ∙ more.2,
    )
  where
    or_true : (v : Bool) → (v || true) ≡ true
    or_true true = refl
    or_true false = refl

-- a byte and what stands behind it
here_is : (bs : List ℕ) (at : ℕ) → at < length bs → drop at bs ≡ get_or bs at 0 ∷ drop (at + 1) bs
here_is bs at lt = drop-cons bs at 0 lt ∙ ap (λ n. get_or bs at 0 ∷ drop n bs) (sym (add-one at))

-- the last colon of the bytes
pub last_there : (bs : List ℕ) (at : ℕ) → at < length bs → get_or bs at 0 ≡ 58 → has_colon (drop (at + 1) bs) ≡ false → CutsLast bs (take at bs) (drop (at + 1) bs)
last_there bs at lt here none =
    let is : bs ≡ take at bs ++ 58 ∷ drop (at + 1) bs = sym (take-append-drop at bs) ∙ ap (λ l. take at bs ++ l) (here_is bs at lt ∙ ap (λ b. b ∷ drop (at + 1) bs) here) in
    let cut = last_cut (take at bs) (drop (at + 1) bs) none in record {
      there = ap has_colon is ∙ cut.0;
      before_is = sym (ap before_last is ∙ cut.1);
      behind_is = sym (ap behind_last is ∙ cut.2);
    }

-- a byte that is no colon before bytes without one
pub none_more : (bs : List ℕ) (at : ℕ) → at < length bs → (get_or bs at 0 ≡ 58 → ⊥) → has_colon (drop (at + 1) bs) ≡ false → has_colon (drop at bs) ≡ false
none_more bs at lt here none = ap has_colon (here_is bs at lt) ∙ ap (λ v. is_colon (get_or bs at 0) || v) none ∙ no_colon (get_or bs at 0) here
  where
    no_colon : (b : ℕ) → (b ≡ 58 → ⊥) → (is_colon b || false) ≡ false
    no_colon b not_so = elim (is_colon b) as (λ v. is_colon b ≡ v → (v || false) ≡ false) [
      | true ↦ λ e. absurd (not_so ((Decides-eqb b 58).0 e))
      | false ↦ λ e. refl
    ] refl

-- a byte at the end
pub strip_end-push : (bs : List ℕ) (b : ℕ) → strip_end (bs ++ b ∷ []) ≡ cond (is_blank b) (strip_end bs) (bs ++ b ∷ [])
strip_end-push [] b = elim (is_blank b) as (λ v. cond (v && true) [] (b ∷ []) ≡ cond v [] (b ∷ [])) [ true ↦ refl | false ↦ refl ]
strip_end-push (x ∷ xs) b =
    let more = strip_end-push xs b in
    ap (λ v. cond (is_blank x && v) [] (x ∷ strip_end (xs ++ b ∷ []))) (list_all-append is_blank xs (b ∷ []))
    ∙ ap (λ l. cond (is_blank x && (list_all is_blank xs && (is_blank b && true))) [] (x ∷ l)) more
    ∙ (elim (is_blank b) as (λ v. cond (is_blank x && (list_all is_blank xs && (v && true))) [] (x ∷ cond v (strip_end xs) (xs ++ b ∷ [])) ≡ cond v (cond (is_blank x && list_all is_blank xs) [] (x ∷ strip_end xs)) (x ∷ (xs ++ b ∷ []))) [
      | true ↦ ap (λ v. cond (is_blank x && v) [] (x ∷ strip_end xs)) (and_true (list_all is_blank xs))
      | false ↦ ap (λ v. cond v [] (x ∷ (xs ++ b ∷ []))) (no_and (is_blank x) (list_all is_blank xs))
    ])
  where
    and_true : (v : Bool) → (v && true) ≡ v
    and_true true = refl
    and_true false = refl

    no_and : (v w : Bool) → (v && (w && false)) ≡ false
    no_and true true = refl
    no_and true false = refl
    no_and false w = refl

-- the bytes before the last one, and it
last_is : (bs : List ℕ) → 0 < length bs → bs ≡ take (length bs - 1) bs ++ get_or bs (length bs - 1) 0 ∷ []
last_is bs some =
    let at = length bs - 1 in
    let lt : at < length bs = omega (arith, some) in
    let nothing : length bs ≤ at + 1 = omega arith in
    sym (take-append-drop at bs) ∙ ap (λ l. take at bs ++ l) (here_is bs at lt ∙ ap (λ l. get_or bs at 0 ∷ l) (drop_of_length-le bs nothing))

-- the last byte is blank, or it is not
pub strip_end-last : (bs : List ℕ) → 0 < length bs → strip_end bs ≡ cond (is_blank (get_or bs (length bs - 1) 0)) (strip_end (take (length bs - 1) bs)) bs
strip_end-last bs some =
    let is = last_is bs some in
    ap strip_end is ∙ strip_end-push (take (length bs - 1) bs) (get_or bs (length bs - 1) 0) ∙ ap (λ l. cond (is_blank (get_or bs (length bs - 1) 0)) (strip_end (take (length bs - 1) bs)) l) (sym is)
