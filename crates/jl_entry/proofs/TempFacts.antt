-- Temporary names are paths.
use Rattle.std.proofs.Common.{◌≡◌, ◌⊎◌, inl, inr, None, ℕ, zero, suc, ◌-◌, ◌<◌, ◌≤◌, ◌==◌, ◌&&◌, ◌||◌, not, Bool, true, false, cond, nat_eq, nat_lt, nat_le, List, [], ◌∷◌, ◌++◌, length, take, get_or, unwrap_or, refl, sym, ap, subst, ◌∙◌, arith, append_assoc, length-append}
use Rattle.std.proofs.Math.Seq.{take-append_seam, get_or-append_seam}
use Rattle.std.proofs.lemmas.Bool.{and_parts, or_from}
use Rattle.std.proofs.lemmas.Bool.Decides.{nat_tests}
use Rattle.std.proofs.lemmas.Grind.{common_steps}
use Rattle.std.proofs.lemmas.List.Folds.{list_any-append}
use Rattle.std.proofs.lemmas.Option.{unwrap_or-slice_get}
use Rattle.std.proofs.lemmas.Slice.Eq.{bytes_eq-Decides}
use Rattle.std.specs.List.{list_all, list_any, slice_get}
use Rattle.std.specs.Str.{bytes_eq}
use Rattle.jl_text.specs.Paths.{PathView, is_part, is_path, is_fixed, parent, last_part}
use Rattle.jl_text.specs.Texts.{is_token, is_token_byte}
use Rattle.jl_text.proofs.Spelled.{part_facts}
use Rattle.jl_entry.specs.Names.{Final, code_of, entry_of, IsFinal, IsTemp, code_part, entry_part, suffix, temp_of}

-- ---- parts at their places

-- each of such parts is one
all_at : (qs : PathView) (i : ℕ) → list_all is_part qs ≡ true → i < length qs → is_part (get_or qs i []) ≡ true
all_at [] i h lt = absurd (omega arith)
all_at (q ∷ qs) zero h lt = (and_parts (is_part q) (list_all is_part qs) h).0
all_at (q ∷ qs) (suc i) h lt = all_at qs i (and_parts (is_part q) (list_all is_part qs) h).1 (omega arith)

-- only the first part of a path may be empty
pub part_at : (p : PathView) (i : ℕ) → is_path p ≡ true → i < length p → ((i ≡ 0) × (get_or p i [] ≡ [])) ⊎ (is_part (get_or p i []) ≡ true)
part_at [] i h lt = absurd (omega arith)
part_at ([] ∷ qs) zero h lt = inl (refl, refl)
part_at ((b ∷ bs) ∷ qs) zero h lt =
    let e : nat_eq (length (b ∷ bs)) 0 ≡ false = grind (arith, nat_tests, common_steps) in
    let parts = and_parts (nat_eq (length (b ∷ bs)) 0 || is_part (b ∷ bs)) (list_all is_part qs) h in
    inr (subst (λ v. (v || is_part (b ∷ bs)) ≡ true) e parts.0)
part_at (q ∷ qs) (suc i) h lt = inr (all_at qs i (and_parts (nat_eq (length q) 0 || is_part q) (list_all is_part qs) h).1 (omega arith))

-- wherever it stands
weaker : (p : PathView) (i : ℕ) → ((i ≡ 0) × (get_or p i [] ≡ [])) ⊎ (is_part (get_or p i []) ≡ true) → (get_or p i [] ≡ []) ⊎ (is_part (get_or p i []) ≡ true)
weaker p i (inl h) = inl h.1
weaker p i (inr h) = inr h

-- the last part of a path, where there is one, is a part
last_of : (p : PathView) → is_path p ≡ true → (unwrap_or (slice_get p (length p - 1)) [] ≡ []) ⊎ (is_part (unwrap_or (slice_get p (length p - 1)) []) ≡ true)
last_of [] h = inl refl
last_of (q ∷ qs) h =
    subst (λ (t : List ℕ). (t ≡ []) ⊎ (is_part t ≡ true)) (sym (unwrap_or-slice_get (q ∷ qs) (length (q ∷ qs) - 1) []))
    (weaker (q ∷ qs) (length (q ∷ qs) - 1) (part_at (q ∷ qs) (length (q ∷ qs) - 1) h (omega arith)))

-- the same in the word for it
pub last_is_part : (p : PathView) → is_path p ≡ true → (unwrap_or (last_part p) [] ≡ []) ⊎ (is_part (unwrap_or (last_part p) []) ≡ true)
last_is_part p h =
    elim (is_fixed p) as (λ v. (unwrap_or (cond v None (slice_get p (length p - 1))) [] ≡ []) ⊎ (is_part (unwrap_or (cond v None (slice_get p (length p - 1))) []) ≡ true)) [
      | true ↦ inl refl
      | false ↦ last_of p h
    ]

-- what stands at a place within a list
any_default : (p : PathView) (i : ℕ) (d e : List ℕ) → i < length p → get_or p i d ≡ get_or p i e
any_default [] i d e lt = absurd (omega arith)
any_default (q ∷ qs) zero d e lt = refl
any_default (q ∷ qs) (suc i) d e lt = any_default qs i d e (omega arith)

-- a part of a path can be added at its place
pub addable : (folder p : PathView) (part : List ℕ) (i : ℕ) → is_path p ≡ true → i < length p → folder ≡ take i p → part ≡ get_or p i part
    → ((folder ≡ []) × (part ≡ [])) ⊎ (is_part part ≡ true)
addable folder p part i h lt e g = by_place (part_at p i h lt)
  where
    f : part ≡ get_or p i []
    f = g ∙ any_default p i part [] lt

    by_place : ((i ≡ 0) × (get_or p i [] ≡ [])) ⊎ (is_part (get_or p i []) ≡ true) → ((folder ≡ []) × (part ≡ [])) ⊎ (is_part part ≡ true)
    by_place (inl k) = inl (e ∙ ap (λ n. take n p) k.0, f ∙ k.1)
    by_place (inr k) = inr (ap is_part f ∙ k)

-- ---- a part with a suffix

-- a test that can't hold
lacks : (b : Bool) → (b ≡ true → ⊥) → b ≡ false
lacks true h = absurd (h refl)
lacks false h = refl

-- texts of different lengths are not equal
differ : (xs ys : List ℕ) → length ys < length xs → bytes_eq xs ys ≡ false
differ xs ys h = lacks (bytes_eq xs ys) (λ e. let same : xs ≡ ys = (bytes_eq-Decides xs ys).0 e in omega (arith, ap length same))

-- a token holds no slash and no zero byte
token_lacks : (t : List ℕ) → list_all is_token_byte t ≡ true → (list_any (λ b. b == 47) t ≡ false) × (list_any (λ b. nat_eq b 0) t ≡ false)
token_lacks [] h = (refl, refl)
token_lacks (b ∷ bs) h =
    let parts = and_parts (is_token_byte b) (list_all is_token_byte bs) h in
    let slash : (b == 47) ≡ false = grind (arith, nat_tests) in
    let zero' : nat_eq b 0 ≡ false = grind (arith, nat_tests) in
    let more = token_lacks bs parts.1 in
    (or_from (b == 47) (list_any (λ b. b == 47) bs) slash more.0, or_from (nat_eq b 0) (list_any (λ b. nat_eq b 0) bs) zero' more.1)

-- nor does a part, or nothing
clean : (q : List ℕ) → (q ≡ []) ⊎ (is_part q ≡ true) → (list_any (λ b. b == 47) q ≡ false) × (list_any (λ b. nat_eq b 0) q ≡ false)
clean q (inl e) = (ap (list_any (λ b. b == 47)) e, ap (list_any (λ b. nat_eq b 0)) e)
clean q (inr h) = let facts = part_facts q h in (facts.2, facts.3)

-- a part, or nothing, with a suffix is a part
pub temp_is_part : (q token : List ℕ) → (q ≡ []) ⊎ (is_part q ≡ true) → is_token token ≡ true → is_part (q ++ suffix token) ≡ true
unfolding suffix
temp_is_part q token h k =
    let t = q ++ suffix token in
    let len : 5 ≤ length t = omega (arith, length-append q (suffix token)) in
    let front = clean q h in
    let back = token_lacks token (and_parts (nat_lt 0 (length token) && nat_le (length token) 48) (list_all is_token_byte token) k).1 in
    let a = differ t [] (omega arith) in
    let b = differ t (46 ∷ []) (omega arith) in
    let d = differ t (46 ∷ 46 ∷ []) (omega arith) in
    let slash : list_any (λ b. b == 47) t ≡ false = list_any-append (λ b. b == 47) q (suffix token) ∙ or_from (list_any (λ b. b == 47) q) (list_any (λ b. b == 47) (suffix token)) front.0 back.0 in
    let zero' : list_any (λ b. nat_eq b 0) t ≡ false = list_any-append (λ b. nat_eq b 0) q (suffix token) ∙ or_from (list_any (λ b. nat_eq b 0) q) (list_any (λ b. nat_eq b 0) (suffix token)) front.1 back.1 in
    λ i. (not (a i) && not (b i)) && (not (d i) && (not (slash i) && not (zero' i)))

-- ---- the temporary name of a final file

-- the path of a last part
temp_of-last : (r : PathView) (q token : List ℕ) → 1 ≤ length r → temp_of (r ++ q ∷ []) token ≡ r ++ (q ++ suffix token) ∷ []
temp_of-last [] q token h = absurd (omega arith)
temp_of-last (p ∷ r) q token h =
    let whole = (p ∷ r) ++ q ∷ [] in
    let count : length whole - 1 ≡ length (p ∷ r) = omega (arith, length-append (p ∷ r) (q ∷ [])) in
    let free : is_fixed whole ≡ false = let n : 1 ≤ length (r ++ q ∷ []) = omega (arith, length-append r (q ∷ [])) in grind (arith, nat_tests) in
    let folder : parent whole ≡ p ∷ r = ap (λ n. take n whole) count ∙ take-append_seam (p ∷ r) (q ∷ []) in
    let last : unwrap_or (slice_get whole (length whole - 1)) [] ≡ q = unwrap_or-slice_get whole (length whole - 1) [] ∙ ap (λ n. get_or whole n []) count ∙ get_or-append_seam (p ∷ r) q [] [] in
    (λ i. cond (free i) whole (parent whole) ++ (unwrap_or (cond (free i) None (slice_get whole (length whole - 1))) [] ++ suffix token) ∷ [])
    ∙ (λ i. folder i ++ (last i ++ suffix token) ∷ [])

-- the temporary name of a final name is that of its file
pub temp_of-final : (root : PathView) (x : Final) (last : PathView) (token : List ℕ) → is_token token ≡ true → IsFinal root x last → IsTemp root x token (temp_of last token)
temp_of-final root (code_of m f) last token ok h = record {
  formed = h.formed;
  of_token = ok;
  is = ap (λ p. temp_of p token) (h.is ∙ sym (append_assoc root (m ∷ f ∷ []) (code_part ∷ [])))
      ∙ temp_of-last (root ++ m ∷ f ∷ []) code_part token (omega (arith, length-append root (m ∷ f ∷ [])))
      ∙ append_assoc root (m ∷ f ∷ []) ((code_part ++ suffix token) ∷ []);
}
temp_of-final root (entry_of w m f k) last token ok h = record {
  formed = h.formed;
  of_token = ok;
  is = ap (λ p. temp_of p token) (h.is ∙ sym (append_assoc root (m ∷ f ∷ k ∷ []) (entry_part w ∷ [])))
      ∙ temp_of-last (root ++ m ∷ f ∷ k ∷ []) (entry_part w) token (omega (arith, length-append root (m ∷ f ∷ k ∷ [])))
      ∙ append_assoc root (m ∷ f ∷ k ∷ []) ((entry_part w ++ suffix token) ∷ []);
}
