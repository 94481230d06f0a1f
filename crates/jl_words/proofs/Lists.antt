-- Tests over lists, and the words that are left.
use Rattle.std.proofs.Common.{◌≡◌, suc, ◌+◌, ◌≤◌, List, [], ◌∷◌, Bool, true, false, ◌||◌, ◌==◌, Some, None, length, take, cond, not, refl, sym, ap, ◌∙◌, arith}
use Rattle.std.specs.List.{list_any, prefix_len, position_or_len, before_first, after_first}
use Rattle.std.proofs.lemmas.List.{take_all}
use Rattle.jl_text.specs.Paths.{PathView}
use Rattle.jl_words.specs.Reading.{Text, name_and_value}
use Rattle.jl_words.specs.Commands.{clear_with}

-- nothing passes
pub none_passes : {A : Type 0} (p : A → Bool) (xs : List A) → position_or_len p xs ≡ length xs → list_any p xs ≡ false
none_passes p [] e = refl
none_passes p (x ∷ xs) e = by (p x) refl (none_passes p xs)
  where
    by : (b : Bool) → p x ≡ b → (position_or_len p xs ≡ length xs → list_any p xs ≡ false) → list_any p (x ∷ xs) ≡ false
    by true f again = let none : 0 ≡ suc (length xs) = sym (ap (λ b. cond (not b) (1 + prefix_len (λ y. not (p y)) xs) 0) f) ∙ e in absurd (omega arith)
    by false f again =
        let more : 1 + position_or_len p xs ≡ suc (length xs) = sym (ap (λ b. cond (not b) (1 + prefix_len (λ y. not (p y)) xs) 0) f) ∙ e in
        ap (λ b. b || list_any p xs) f ∙ again (omega arith)

-- a body without `=` is a name
pub bare_name : (body : Text) → position_or_len (λ b. b == 61) body ≡ length body → (body, None) ≡ name_and_value body
bare_name body e =
    let whole : before_first (λ b. b == 61) body ≡ body = ap (λ n. take n body) e ∙ take_all (length body) body (omega arith) in
    let bare : list_any (λ b. b == 61) body ≡ false = none_passes (λ b. b == 61) body e in
    λ i. (sym whole i, sym (ap (λ b. cond b (Some (after_first (λ c. c == 61) body)) None) bare) i)

-- more than three words name nothing in a cache
pub too_many : (l : PathView) (words : List Text) → 4 ≤ length words → clear_with l words ≡ None
too_many l [] h = absurd (omega arith)
too_many l (a ∷ []) h = absurd (omega arith)
too_many l (a ∷ b ∷ []) h = absurd (omega arith)
too_many l (a ∷ b ∷ c ∷ []) h = absurd (omega arith)
too_many l (a ∷ b ∷ c ∷ d ∷ ws) h = refl
