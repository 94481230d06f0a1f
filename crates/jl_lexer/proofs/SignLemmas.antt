-- Where the signs of a text end.
use Rattle.std.proofs.Common.{◌≡◌, true, ℕ, zero, suc, ◌-◌, ◌<◌, ◌≤◌, false, List, [], ◌∷◌, length, length-drop, get_or, take, drop, refl, sym, ap, ap₂, ◌∙◌, arith}
use Rattle.jl_lexer.specs.Signs.{is_gap, signs, signs_behind, sign_run}

-- a gap is dropped
pub signs_gap : (b : ℕ) (bs : List ℕ) → is_gap b ≡ true → signs (b ∷ bs) ≡ signs bs
signs_gap b bs h = rw h

-- the signs behind some bytes are the signs of what is behind them
pub behind_is : (n : ℕ) (s : List ℕ) → signs_behind n s ≡ signs (drop n s)
behind_is zero s = refl
behind_is (suc n) [] = refl
behind_is (suc n) (b ∷ bs) = behind_is n bs

-- the first sign and the rest
pub sign_split : (s a b : List ℕ) (n : ℕ) → 0 < length s → is_gap (get_or s 0 0) ≡ false → n ≡ sign_run (get_or s 0 0) (drop 1 s) → a ≡ take (suc n) s → b ≡ drop (suc n) s → signs s ≡ a ∷ signs b
sign_split [] a b n some first run p q = absurd (omega arith)
sign_split (c ∷ cs) a b n some first run p q =
    rw first (ap₂ (λ x y. x ∷ y)
    (ap (λ k. c ∷ take k cs) (sym run) ∙ sym p)
    (behind_is (sign_run c cs) cs ∙ ap (λ k. signs (drop k cs)) (sym run) ∙ ap signs (sym q)))

take_all : (s : List ℕ) (n : ℕ) → length s ≤ n → take n s ≡ s
take_all [] zero h = refl
take_all [] (suc n) h = refl
take_all (b ∷ bs) zero h = absurd (omega arith)
take_all (b ∷ bs) (suc n) h = ap (λ r. b ∷ r) (take_all bs n (omega arith))

-- what is behind the first n bytes, as it is sliced
pub rest_is : (s : List ℕ) (n : ℕ) → take (length s - n) (drop n s) ≡ drop n s
rest_is s n = take_all (drop n s) (length s - n) (omega (arith, length-drop n s))
