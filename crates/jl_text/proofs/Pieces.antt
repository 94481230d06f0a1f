-- What a text's pieces are: each without a slash, and those that a path keeps are parts.
use Rattle.std.proofs.Common.{◌≡◌, ℕ, List, [], ◌∷◌, ◌++◌, Bool, true, false, ◌&&◌, ◌||◌, ◌==◌, not, nat_eq, nat_lt, length, filter, cond, refl}
use Rattle.std.proofs.lemmas.Bool.{and_parts, and_from, or_parts, not_from_false}
use Rattle.std.specs.List.{list_all, list_any, onto_first}
use Rattle.std.specs.Str.{bytes_eq}
use Rattle.jl_text.specs.Paths.{is_kept, is_part, is_path, pieces, path_of, is_bad, begins_at_top}

-- a byte that passes no test may be set before the first piece
pub lacks-onto_first : (test : ℕ → Bool) (b : ℕ) (parts : List (List ℕ)) → test b ≡ false → list_all (λ q. not (list_any test q)) parts ≡ true
    → list_all (λ q. not (list_any test q)) (onto_first b parts) ≡ true
lacks-onto_first test b [] e h = rw e refl
lacks-onto_first test b (q ∷ qs) e h = rw e h

-- no piece has a slash
pub pieces-lack_slash : (t : List ℕ) → list_all (λ q. not (list_any (λ b. b == 47) q)) (pieces t) ≡ true
pieces-lack_slash [] = refl
pieces-lack_slash (b ∷ bs) =
    let more = pieces-lack_slash bs in
    let P : Bool → Type 0 = λ v. (b == 47) ≡ v → list_all (λ q. not (list_any (λ x. x == 47) q)) (cond v ([] ∷ pieces bs) (onto_first b (pieces bs))) ≡ true in
    (elim (b == 47) as P [ true ↦ λ _. more | false ↦ λ e. lacks-onto_first (λ x. x == 47) b (pieces bs) e more ]) refl

-- the pieces of a text with no zero byte have none
pub pieces-lack_zero : (t : List ℕ) → list_any (λ b. nat_eq b 0) t ≡ false → list_all (λ q. not (list_any (λ b. nat_eq b 0) q)) (pieces t) ≡ true
pieces-lack_zero [] h = refl
pieces-lack_zero (b ∷ bs) h =
    let parts = or_parts (nat_eq b 0) (list_any (λ x. nat_eq x 0) bs) h in
    let more = pieces-lack_zero bs parts.1 in
    elim (b == 47) as (λ v. list_all (λ q. not (list_any (λ x. nat_eq x 0) q)) (cond v ([] ∷ pieces bs) (onto_first b (pieces bs))) ≡ true)
    [ true ↦ more | false ↦ lacks-onto_first (λ x. nat_eq x 0) b (pieces bs) parts.0 more ]

-- those of the pieces that a path keeps are parts
pub kept_are_parts : (qs : List (List ℕ)) → list_all (λ q. not (list_any (λ b. b == 47) q)) qs ≡ true → list_all (λ q. not (list_any (λ b. nat_eq b 0) q)) qs ≡ true
    → list_any (λ q. bytes_eq q (46 ∷ 46 ∷ [])) qs ≡ false → list_all is_part (filter is_kept qs) ≡ true
kept_are_parts [] s z d = refl
kept_are_parts (q ∷ qs) s z d =
    let s2 = and_parts (not (list_any (λ b. b == 47) q)) _ s in
    let z2 = and_parts (not (list_any (λ b. nat_eq b 0) q)) _ z in
    let d2 = or_parts (bytes_eq q (46 ∷ 46 ∷ [])) _ d in
    let more = kept_are_parts qs s2.1 z2.1 d2.1 in
    let P : Bool → Type 0 = λ v. is_kept q ≡ v → list_all is_part (cond v (q ∷ filter is_kept qs) (filter is_kept qs)) ≡ true in
    (elim (is_kept q) as P [
      | true ↦ λ k. and_from (is_part q) _ (and_from (is_kept q) _ k (and_from (not (bytes_eq q (46 ∷ 46 ∷ []))) _ (not_from_false _ d2.0) (and_from (not (list_any (λ b. b == 47) q)) _ s2.0 z2.0))) more
      | false ↦ λ _. more
    ]) refl

-- the four tests of a text that is no bad one
pub bad_parts : (t : List ℕ) → is_bad t ≡ false
    → (nat_eq (length t) 0 ≡ false) × (nat_lt 4096 (length t) ≡ false) × (list_any (λ b. nat_eq b 0) t ≡ false) × (list_any (λ q. bytes_eq q (46 ∷ 46 ∷ [])) (pieces t) ≡ false)
bad_parts t h =
    let a = or_parts (nat_eq (length t) 0) _ h in
    let b = or_parts (nat_lt 4096 (length t)) _ a.1 in
    let c = or_parts (list_any (λ x. nat_eq x 0) t) _ b.1 in
    (a.0, b.0, c.0, c.1)

-- parts are a path
pub first_is_part : (qs : List (List ℕ)) → list_all is_part qs ≡ true → is_path qs ≡ true
first_is_part [] h = refl
first_is_part (q ∷ qs) h =
    let parts = and_parts (is_part q) _ h in
    elim (nat_eq (length q) 0) as (λ v. ((v || is_part q) && list_all is_part qs) ≡ true) [ true ↦ parts.1 | false ↦ h ]

-- a text that is not bad spells a path
pub is_path-path_of : (t : List ℕ) → is_bad t ≡ false → is_path (path_of t) ≡ true
is_path-path_of t h =
    let w = bad_parts t h in
    let kept = kept_are_parts (pieces t) (pieces-lack_slash t) (pieces-lack_zero t w.2) w.3 in
    let first = first_is_part (filter is_kept (pieces t)) kept in
    elim (begins_at_top t) as (λ v. is_path (cond v ([] ∷ []) [] ++ filter is_kept (pieces t)) ≡ true) [ true ↦ kept | false ↦ first ]
