-- The texts of paths, by what stands between their slashes.
use Rattle.std.proofs.Common.{◌≡◌, ℕ, inl, inr, ◌+◌, ◌≤◌, List, [], ◌∷◌, ◌++◌, Bool, true, false, ◌&&◌, ◌||◌, ◌==◌, not, cond, nat_eq, nat_lt, length, sym, ◌∙◌, ap, subst, refl, arith, true≢false}
use Rattle.std.proofs.lemmas.Bool.{and_parts, and_from, or_parts, not-true, le-ltb}
use Rattle.std.proofs.lemmas.Bool.Decides.{nat_tests, Decides-ltb, Decides-eqb, leb_tells}
use Rattle.std.proofs.lemmas.Grind.{common_steps}
use Rattle.std.proofs.lemmas.Slice.Eq.{bytes_eq-Decides}
use Rattle.std.specs.List.{list_all, onto_first}
use Rattle.std.specs.Str.{bytes_eq}
use Rattle.jl_text.specs.declared.limits.TheConstants.{MOST_PATH_BYTES}
use Rattle.jl_text.specs.Paths.{PathView, IsPath, is_path, is_part, pieces, path_of, is_bad, behind_slashes, text_of}
use Rattle.jl_text.proofs.Spelled.{part_facts, pieces_joined, text_of-spelled, path_of-text_of, is_bad-text_of}
use Rattle.jl_text.proofs.Pieces.{first_is_part}
use Rattle.jl_tracker.specs.PathTexts.{IsPathText, behind_slash, is_spelled}

-- a text that doesn't begin with a slash
pub no_slash : (t : List ℕ) → ((rest : List ℕ) → t ≡ 47 ∷ rest → ⊥) → t ≡ behind_slash t
no_slash [] h = refl
no_slash (b ∷ bs) h = elim (nat_eq b 47) as (λ v. nat_eq b 47 ≡ v → b ∷ bs ≡ cond v bs (b ∷ bs)) [
  | true ↦ λ e. absurd (h bs (ap (λ n. n ∷ bs) ((Decides-eqb b 47).0 e)))
  | false ↦ λ e. refl
] refl

-- a text has at least one piece
pieces_some : (t : List ℕ) → (q : List ℕ) × (qs : PathView) × (pieces t ≡ q ∷ qs)
pieces_some [] = ([], [], refl)
pieces_some (b ∷ bs) =
    let more = pieces_some bs in
    elim (b == 47) as (λ v. (q : List ℕ) × (qs : PathView) × (cond v ([] ∷ pieces bs) (onto_first b (pieces bs)) ≡ q ∷ qs)) [
      | true ↦ ([], pieces bs, refl)
      | false ↦ (b ∷ more.0, more.1, ap (onto_first b) more.2)
    ]

-- parts with a slash between two
join : PathView → List ℕ
join [] = []
join (q ∷ qs) = q ++ behind_slashes qs

-- the pieces of a text, with slashes between them, are the text
pieces-join : (t : List ℕ) (q : List ℕ) (qs : PathView) → pieces t ≡ q ∷ qs → q ++ behind_slashes qs ≡ t
unfolding join
pieces-join t q qs e = sym (ap join e) ∙ all t
  where
    behind : (ps : PathView) (q : List ℕ) (qs : PathView) → ps ≡ q ∷ qs → behind_slashes ps ≡ 47 ∷ join ps
    behind ps q qs e = ap behind_slashes e ∙ ap (λ l. 47 ∷ join l) (sym e)

    onto : (b : ℕ) (ps : PathView) (q : List ℕ) (qs : PathView) → ps ≡ q ∷ qs → join (onto_first b ps) ≡ b ∷ join ps
    onto b ps q qs e = ap (λ l. join (onto_first b l)) e ∙ ap (λ l. b ∷ join l) (sym e)

    all : (t : List ℕ) → join (pieces t) ≡ t
    all [] = refl
    all (b ∷ bs) =
        let more = all bs in
        let some = pieces_some bs in
        elim (b == 47) as (λ v. (b == 47) ≡ v → join (cond v ([] ∷ pieces bs) (onto_first b (pieces bs))) ≡ b ∷ bs) [
          | true ↦ λ h. behind (pieces bs) some.0 some.1 some.2 ∙ ap (λ l. 47 ∷ l) more ∙ ap (λ n. n ∷ bs) (sym ((Decides-eqb b 47).0 h))
          | false ↦ λ h. onto b (pieces bs) some.0 some.1 some.2 ∙ ap (λ l. b ∷ l) more
        ] refl

-- parts between slashes, behind a first slash or not, are the text of a path
spelled_path : (t : List ℕ) → list_all is_part (pieces (behind_slash t)) ≡ true → (p : PathView) × IsPath p × (t ≡ text_of p)
spelled_path [] parts = absurd (true≢false (sym parts))
spelled_path (b ∷ bs) parts = elim (nat_eq b 47) as (λ v. nat_eq b 47 ≡ v → list_all is_part (pieces (cond v bs (b ∷ bs))) ≡ true → (p : PathView) × IsPath p × (b ∷ bs ≡ text_of p)) [
  | true ↦ λ h parts.
      let some = pieces_some bs in
      let q = some.0 in
      let qs = some.1 in
      let long : nat_eq (length {A = ℕ} [] + length (q ∷ qs)) 0 ≡ false = grind (arith, nat_tests, common_steps) in (
        [] ∷ q ∷ qs,
        subst (λ l. list_all is_part l ≡ true) some.2 parts,
        ap (λ n. n ∷ bs) ((Decides-eqb b 47).0 h) ∙ ap (λ l. 47 ∷ l) (sym (pieces-join bs q qs some.2)) ∙ sym (text_of-spelled [] (q ∷ qs) long),
      )
  | false ↦ λ h parts.
      let some = pieces_some (b ∷ bs) in
      let q = some.0 in
      let qs = some.1 in
      let here : list_all is_part (q ∷ qs) ≡ true = subst (λ l. list_all is_part l ≡ true) some.2 parts in
      let long = not_empty q qs (and_parts (is_part q) _ here).0 in
      (q ∷ qs, first_is_part (q ∷ qs) here, sym (pieces-join (b ∷ bs) q qs some.2) ∙ sym (text_of-spelled q qs long))
] refl parts
  where
    not_empty : (q : List ℕ) (qs : PathView) → is_part q ≡ true → nat_eq (length q + length qs) 0 ≡ false
    not_empty [] qs part = absurd (true≢false (sym part))
    not_empty (x ∷ xs) qs part = grind (arith, nat_tests, common_steps)

-- what is tested of a text makes it the text of a path
pub is_spelled-sound : (t : List ℕ) → is_spelled t ≡ true → IsPathText t
is_spelled-sound t h =
    let parts = and_parts (not (nat_lt MOST_PATH_BYTES (length t))) _ h in
    let short : length t ≤ MOST_PATH_BYTES = within (length t) (not-true _ parts.0) in
    let p = of_or parts.1 in
    record { path = p.0; is_path = p.1; text_is = p.2; short = short }
  where
    within : (n : ℕ) → nat_lt MOST_PATH_BYTES n ≡ false → n ≤ MOST_PATH_BYTES
    within n e = elim (leb_tells n MOST_PATH_BYTES) [
      | inl p ↦ p.1
      | inr p ↦ absurd (true≢false (sym ((Decides-ltb MOST_PATH_BYTES n).1 p.1) ∙ e))
    ]

    last : (v : Bool) → bytes_eq t (47 ∷ []) ≡ v → (v || list_all is_part (pieces (behind_slash t))) ≡ true → (p : PathView) × IsPath p × (t ≡ text_of p)
    last true e h = ([] ∷ [], refl, (bytes_eq-Decides t (47 ∷ [])).0 e)
    last false e h = spelled_path t h

    first : (v : Bool) → bytes_eq t (46 ∷ []) ≡ v → (v || (bytes_eq t (47 ∷ []) || list_all is_part (pieces (behind_slash t)))) ≡ true → (p : PathView) × IsPath p × (t ≡ text_of p)
    first true e h = ([], refl, (bytes_eq-Decides t (46 ∷ [])).0 e)
    first false e h = last (bytes_eq t (47 ∷ [])) refl h

    of_or : (bytes_eq t (46 ∷ []) || (bytes_eq t (47 ∷ []) || list_all is_part (pieces (behind_slash t)))) ≡ true → (p : PathView) × IsPath p × (t ≡ text_of p)
    of_or h = first (bytes_eq t (46 ∷ [])) refl h

-- the tests that the text of a path passes
spelled_parts : (p : PathView) → is_path p ≡ true → (bytes_eq (text_of p) (46 ∷ []) || (bytes_eq (text_of p) (47 ∷ []) || list_all is_part (pieces (behind_slash (text_of p))))) ≡ true
spelled_parts [] h = refl
spelled_parts ([] ∷ []) h = refl
spelled_parts ([] ∷ q ∷ qs) h =
    let parts = and_parts (is_part q) _ h in
    let facts = part_facts q parts.0 in
    let long : nat_eq (length {A = ℕ} [] + length (q ∷ qs)) 0 ≡ false = grind (arith, nat_tests, common_steps) in
    let all : list_all is_part (pieces (behind_slash (text_of ([] ∷ q ∷ qs)))) ≡ true = ap (λ t. list_all is_part (pieces (behind_slash t))) (text_of-spelled [] (q ∷ qs) long) ∙ ap (list_all is_part) (pieces_joined q qs facts.2 parts.1) ∙ h in
    or_last _ _ _ all
  where
    or_last : (u v w : Bool) → w ≡ true → (u || (v || w)) ≡ true
    or_last true v w e = refl
    or_last false true w e = refl
    or_last false false w e = e
spelled_parts ((b ∷ bs) ∷ qs) h =
    let none : nat_eq (length (b ∷ bs)) 0 ≡ false = grind (arith, nat_tests, common_steps) in
    let whole : list_all is_part ((b ∷ bs) ∷ qs) ≡ true = subst (λ v. ((v || is_part (b ∷ bs)) && list_all is_part qs) ≡ true) none h in
    let parts = and_parts (is_part (b ∷ bs)) _ whole in
    let facts = part_facts (b ∷ bs) parts.0 in
    let long : nat_eq (length (b ∷ bs) + length qs) 0 ≡ false = grind (arith, nat_tests, common_steps) in
    let no_slash : nat_eq b 47 ≡ false = (or_parts (b == 47) _ facts.2).0 in
    let all : list_all is_part (pieces (behind_slash (text_of ((b ∷ bs) ∷ qs)))) ≡ true =
    ap (λ t. list_all is_part (pieces (behind_slash t))) (text_of-spelled (b ∷ bs) qs long)
    ∙ ap (λ v. list_all is_part (pieces (cond v (bs ++ behind_slashes qs) (b ∷ (bs ++ behind_slashes qs))))) no_slash
    ∙ ap (list_all is_part) (pieces_joined (b ∷ bs) qs facts.2 parts.1) ∙ whole in
    or_last _ _ _ all
  where
    or_last : (u v w : Bool) → w ≡ true → (u || (v || w)) ≡ true
    or_last true v w e = refl
    or_last false true w e = refl
    or_last false false w e = e

-- the text of a path passes the test
pub is_spelled-complete : (t : List ℕ) → IsPathText t → is_spelled t ≡ true
is_spelled-complete t h = and_from (not (nat_lt MOST_PATH_BYTES (length t))) _ (ap not (le-ltb MOST_PATH_BYTES (length t) h.short))
    (subst (λ l. (bytes_eq l (46 ∷ []) || (bytes_eq l (47 ∷ []) || list_all is_part (pieces (behind_slash l)))) ≡ true) (sym h.text_is) (spelled_parts h.path h.is_path))

-- the text of a path is read as that path
pub path_text-read : (t : List ℕ) → (h : IsPathText t) → (is_bad t ≡ false) × (path_of t ≡ h.path) × IsPath (path_of t)
path_text-read t h =
    let is = ap path_of h.text_is ∙ path_of-text_of h.path h.is_path in (
      ap is_bad h.text_is ∙ is_bad-text_of h.path h.is_path (subst (λ l. length l ≤ MOST_PATH_BYTES) h.text_is h.short),
      is,
      subst IsPath (sym is) h.is_path,
    )
