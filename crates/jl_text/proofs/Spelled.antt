-- What a path's text is read as: that path again.
use Rattle.std.proofs.Common.{◌≡◌, ℕ, ◌+◌, ◌≤◌, List, [], ◌∷◌, ◌++◌, true, false, ◌&&◌, ◌||◌, ◌==◌, not, nat_eq, length, filter, cond, refl, sym, ap, subst, ◌∙◌, arith, append-nil}
use Rattle.std.proofs.lemmas.Bool.{and_parts, or_parts, or_from, not-true, le-ltb, cond-true, cond-false}
use Rattle.std.proofs.lemmas.Bool.Decides.{nat_tests}
use Rattle.std.proofs.lemmas.Grind.{common_steps}
use Rattle.std.proofs.lemmas.List.Folds.{list_any-append}
use Rattle.std.specs.List.{list_all, list_any}
use Rattle.std.specs.Str.{bytes_eq}
use Rattle.jl_text.specs.Paths.{PathView, is_kept, is_part, is_path, pieces, path_of, is_bad, begins_at_top, behind_slashes, text_of}

-- what a part is
pub part_facts : (q : List ℕ) → is_part q ≡ true
    → (is_kept q ≡ true) × (bytes_eq q (46 ∷ 46 ∷ []) ≡ false) × (list_any (λ b. b == 47) q ≡ false) × (list_any (λ b. nat_eq b 0) q ≡ false)
part_facts q h =
    let a = and_parts (is_kept q) _ h in
    let b = and_parts (not (bytes_eq q (46 ∷ 46 ∷ []))) _ a.1 in
    let c = and_parts (not (list_any (λ b. b == 47) q)) _ b.1 in
    (a.0, not-true _ b.0, not-true _ c.0, not-true _ c.1)

-- a text with no slash is one piece
pub pieces_alone : (q : List ℕ) → list_any (λ b. b == 47) q ≡ false → pieces q ≡ q ∷ []
pieces_alone [] h = refl
pieces_alone (b ∷ bs) h =
    let parts = or_parts (b == 47) _ h in
    rw (parts.0, pieces_alone bs parts.1) refl

-- the first piece ends at the first slash
pub pieces_cut : (q rest : List ℕ) → list_any (λ b. b == 47) q ≡ false → pieces (q ++ 47 ∷ rest) ≡ q ∷ pieces rest
pieces_cut [] rest h = refl
pieces_cut (b ∷ bs) rest h =
    let parts = or_parts (b == 47) _ h in
    rw (parts.0, pieces_cut bs rest parts.1) refl

-- the pieces of parts between slashes are these parts
pub pieces_joined : (q : List ℕ) (qs : PathView) → list_any (λ b. b == 47) q ≡ false → list_all is_part qs ≡ true → pieces (q ++ behind_slashes qs) ≡ q ∷ qs
pieces_joined q [] h k = ap pieces (append-nil q) ∙ pieces_alone q h
pieces_joined q (p ∷ ps) h k =
    let parts = and_parts (is_part p) _ k in
    let facts = part_facts p parts.0 in
    pieces_cut q (p ++ behind_slashes ps) h ∙ ap (λ rest. q ∷ rest) (pieces_joined p ps facts.2 parts.1)

-- a path keeps each part
pub filter-parts : (qs : PathView) → list_all is_part qs ≡ true → filter is_kept qs ≡ qs
filter-parts [] h = refl
filter-parts (q ∷ qs) h =
    let parts = and_parts (is_part q) _ h in
    let facts = part_facts q parts.0 in
    cond-true (is_kept q) _ _ facts.0 ∙ ap (λ rest. q ∷ rest) (filter-parts qs parts.1)

-- no part is `..`
pub parts-lack_dots : (qs : PathView) → list_all is_part qs ≡ true → list_any (λ q. bytes_eq q (46 ∷ 46 ∷ [])) qs ≡ false
parts-lack_dots [] h = refl
parts-lack_dots (q ∷ qs) h =
    let parts = and_parts (is_part q) _ h in
    or_from (bytes_eq q (46 ∷ 46 ∷ [])) _ (part_facts q parts.0).1 (parts-lack_dots qs parts.1)

-- parts behind slashes hold no zero byte
pub behind_slashes-lack_zero : (qs : PathView) → list_all is_part qs ≡ true → list_any (λ b. nat_eq b 0) (behind_slashes qs) ≡ false
behind_slashes-lack_zero [] h = refl
behind_slashes-lack_zero (q ∷ qs) h =
    let parts = and_parts (is_part q) _ h in
    list_any-append (λ b. nat_eq b 0) q (behind_slashes qs) ∙ or_from _ _ (part_facts q parts.0).3 (behind_slashes-lack_zero qs parts.1)

-- a text that begins with a part does not begin at the top
part-not_at_top : (b : ℕ) (bs rest : List ℕ) → is_part (b ∷ bs) ≡ true → begins_at_top ((b ∷ bs) ++ rest) ≡ false
part-not_at_top b bs rest h = (or_parts (b == 47) _ (part_facts (b ∷ bs) h).2).0

-- what the text of a path is: its parts between slashes, but for the two fixed folders
pub text_of-spelled : (q : List ℕ) (qs : PathView) → nat_eq (length q + length qs) 0 ≡ false → text_of (q ∷ qs) ≡ q ++ behind_slashes qs
text_of-spelled q qs h = cond-false _ _ _ h

-- the path of a text that does not begin at the top
path_of-plain : (t : List ℕ) → begins_at_top t ≡ false → path_of t ≡ filter is_kept (pieces t)
path_of-plain t h = ap (λ v. cond v ([] ∷ []) [] ++ filter is_kept (pieces t)) h

-- the parts of a path that does not begin at the top
spelled_parts : (b : ℕ) (bs : List ℕ) (qs : PathView) → is_path ((b ∷ bs) ∷ qs) ≡ true → list_all is_part ((b ∷ bs) ∷ qs) ≡ true
spelled_parts b bs qs h =
    let e : nat_eq (length (b ∷ bs)) 0 ≡ false = grind (arith, nat_tests, common_steps) in
    subst (λ v. ((v || is_part (b ∷ bs)) && list_all is_part qs) ≡ true) e h

-- the text of a path spells it
pub path_of-text_of : (p : PathView) → is_path p ≡ true → path_of (text_of p) ≡ p
path_of-text_of [] h = refl
path_of-text_of ([] ∷ []) h = refl
path_of-text_of ([] ∷ q ∷ qs) h =
    let parts = and_parts (is_part q) _ h in
    let facts = part_facts q parts.0 in
    let long : nat_eq (length {A = ℕ} [] + length (q ∷ qs)) 0 ≡ false = grind (arith, nat_tests, common_steps) in
    ap path_of (text_of-spelled [] (q ∷ qs) long)
    ∙ ap (λ rest. ([] ∷ []) ++ filter is_kept ([] ∷ rest)) (pieces_joined q qs facts.2 parts.1) ∙ ap (λ rest. [] ∷ rest) (filter-parts (q ∷ qs) h)
path_of-text_of ((b ∷ bs) ∷ qs) h =
    let whole = spelled_parts b bs qs h in
    let parts = and_parts (is_part (b ∷ bs)) _ whole in
    let facts = part_facts (b ∷ bs) parts.0 in
    let long : nat_eq (length (b ∷ bs) + length qs) 0 ≡ false = grind (arith, nat_tests, common_steps) in
    ap path_of (text_of-spelled (b ∷ bs) qs long)
    ∙ path_of-plain ((b ∷ bs) ++ behind_slashes qs) (part-not_at_top b bs (behind_slashes qs) parts.0)
    ∙ ap (filter is_kept) (pieces_joined (b ∷ bs) qs facts.2 parts.1) ∙ filter-parts ((b ∷ bs) ∷ qs) whole

-- the first part of a path: empty, or a part
first_facts : (q : List ℕ) (qs : PathView) → is_path (q ∷ qs) ≡ true
    → (list_any (λ b. b == 47) q ≡ false) × (bytes_eq q (46 ∷ 46 ∷ []) ≡ false) × (list_any (λ b. nat_eq b 0) q ≡ false) × (list_all is_part qs ≡ true)
first_facts [] qs h = (refl, refl, refl, h)
first_facts (b ∷ bs) qs h =
    let parts = and_parts (is_part (b ∷ bs)) _ (spelled_parts b bs qs h) in
    let facts = part_facts (b ∷ bs) parts.0 in
    (facts.2, facts.1, facts.3, parts.1)

-- parts between slashes hold no zero byte, and no piece of them is `..`
joined_facts : (q : List ℕ) (qs : PathView) → is_path (q ∷ qs) ≡ true
    → (list_any (λ b. nat_eq b 0) (q ++ behind_slashes qs) ≡ false) × (list_any (λ p. bytes_eq p (46 ∷ 46 ∷ [])) (pieces (q ++ behind_slashes qs)) ≡ false)
joined_facts q qs h =
    let facts = first_facts q qs h in (
      list_any-append (λ b. nat_eq b 0) q (behind_slashes qs) ∙ or_from _ _ facts.2 (behind_slashes-lack_zero qs facts.3),
      ap (list_any (λ p. bytes_eq p (46 ∷ 46 ∷ []))) (pieces_joined q qs facts.0 facts.3) ∙ or_from _ _ facts.1 (parts-lack_dots qs facts.3),
    )

-- the text of a path holds no zero byte and no part `..`
text_facts : (p : PathView) → is_path p ≡ true
    → (list_any (λ b. nat_eq b 0) (text_of p) ≡ false) × (list_any (λ q. bytes_eq q (46 ∷ 46 ∷ [])) (pieces (text_of p)) ≡ false)
text_facts [] h = (refl, refl)
text_facts (q ∷ qs) h =
    let facts = joined_facts q qs h in
    let P : List ℕ → Type 0 = λ t. (list_any (λ b. nat_eq b 0) t ≡ false) × (list_any (λ p. bytes_eq p (46 ∷ 46 ∷ [])) (pieces t) ≡ false) in
    elim (nat_eq (length q + length qs) 0) as (λ v. P (cond v (47 ∷ []) (q ++ behind_slashes qs))) [ true ↦ (refl, refl) | false ↦ facts ]

-- the text of a path is not empty
length-text_of : (p : PathView) → nat_eq (length (text_of p)) 0 ≡ false
length-text_of [] = refl
length-text_of ([] ∷ []) = refl
length-text_of ([] ∷ q ∷ qs) =
    let long : nat_eq (length {A = ℕ} [] + length (q ∷ qs)) 0 ≡ false = grind (arith, nat_tests, common_steps) in
    ap (λ t. nat_eq (length t) 0) (text_of-spelled [] (q ∷ qs) long) ∙ grind (arith, nat_tests, common_steps)
length-text_of ((b ∷ bs) ∷ qs) =
    let long : nat_eq (length (b ∷ bs) + length qs) 0 ≡ false = grind (arith, nat_tests, common_steps) in
    ap (λ t. nat_eq (length t) 0) (text_of-spelled (b ∷ bs) qs long) ∙ grind (arith, nat_tests, common_steps)

-- the text of a path is no bad text, unless it is too long
pub is_bad-text_of : (p : PathView) → is_path p ≡ true → length (text_of p) ≤ 4096 → is_bad (text_of p) ≡ false
is_bad-text_of p h short =
    let facts = text_facts p h in
    or_from _ _ (length-text_of p) (or_from _ _ (le-ltb 4096 (length (text_of p)) short) (or_from _ _ facts.0 facts.1))

-- no two paths have one text
pub text_of-injective : (p q : PathView) → is_path p ≡ true → is_path q ≡ true → text_of p ≡ text_of q → p ≡ q
text_of-injective p q h k e = sym (path_of-text_of p h) ∙ ap path_of e ∙ path_of-text_of q k
