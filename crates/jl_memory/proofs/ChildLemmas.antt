-- Going over a table for the names below a path.
use Rattle.std.proofs.Common.{◌≡◌, ℕ, suc, ◌+◌, ◌<◌, List, [], ◌∷◌, ◌++◌, Bool, true, false, cond, Option, None, Some, nat_eq, length, drop, get_or, sym, ◌∙◌, ap, subst, refl, arith, add-one, true≢false, ◌||◌, ◌==◌, ◌⊎◌, inl, inr}
use Rattle.std.specs.Prelude.{map, Contains, All, IsTrue, ◌&&◌}
use Rattle.std.specs.List.{IsDistinct, list_any, list_all}
use Rattle.std.proofs.lemmas.Bool.Decides.{Decides-eqb}
use Rattle.std.specs.Str.{bytes_eq}
use Rattle.std.proofs.Math.Seq.{drop-cons}
use Rattle.std.proofs.lemmas.Cmp.{nat_list_eq_equiv}
use Rattle.std.proofs.lemmas.List.{map-append, same_from_push}
use Rattle.std.proofs.lemmas.List.Elements.{All-push, Contains-push, Contains-push_cases, Contains-append_left}
use Rattle.std.proofs.lemmas.List.Folds.{Any-from_list_any, list_all-append}
use Rattle.std.proofs.lemmas.Map.Keys.{IsDistinct-push}
use Rattle.std.proofs.lemmas.Slice.Eq.{bytes_eq-Decides}
use Rattle.jl_folder.specs.declared.moves.Place.{Place}
use Rattle.jl_folder.specs.declared.listing.Name.{Name}
use Rattle.jl_folder.specs.declared.moves.Node.{Node}
use Rattle.jl_text.specs.Paths.{PathView, path_eq, is_part, IsPath}
use Rattle.jl_folder.specs.State.{State, is_folder_place}
use Rattle.jl_folder.specs.Listing.{StandsRight}
use Rattle.jl_memory.specs.Tables.{found, Agrees}
use Rattle.jl_memory.specs.Children.{IsChild, StandsIn}
use Rattle.jl_folder.proofs.PathLemmas.{path_eq-Decides}

-- a name is settled by its part
pub StandsIn-once : (places : List (PathView × Option Place)) (p : PathView) (a b : Name) → StandsIn places p a → StandsIn places p b → a.part ≡ b.part → a ≡ b
StandsIn-once places p a b one other same =
    let found_same : Some one.place ≡ Some other.place = sym one.found_is ∙ ap (λ t. found places (p ++ t ∷ [])) same ∙ other.found_is in
    let place_same : one.place ≡ other.place = cc in
    let kind_same : a.folder ≡ b.folder = sym one.kind ∙ ap is_folder_place place_same ∙ other.kind in
    let first : a ≡ record { part = b.part; folder = a.folder } = ap (λ t. record { part = t; folder = a.folder }) same in
    first ∙ ap (λ f. record { part = b.part; folder = f }) kind_same

-- where the entry here doesn't settle q, the entries behind it tell q as all did
pub found-passed : {P : Type 0} (places : List (PathView × Option Place)) (i : ℕ) (x : PathView × Option Place) (q : PathView) → i < length places → x ≡ get_or places i x → (q ≡ x.0 → P)
    → P ⊎ (found (drop i places) q ≡ found places q) → P ⊎ (found (drop (i + 1) places) q ≡ found places q)
found-passed places i x q lt is settled (inl h) = inl h
found-passed {P} places i x q lt is settled (inr h) =
    elim (path_eq q x.0) as (λ b. path_eq q x.0 ≡ b → P ⊎ (found (drop (i + 1) places) q ≡ found places q)) [
      | true ↦ λ t. inl (settled ((path_eq-Decides q x.0).0 t))
      | false ↦ λ t. inr (ap (λ k. found (drop k places) q) (add-one i) ∙ ap (λ b. cond b x.1 (found (drop (suc i) places) q)) (sym t) ∙ ap (λ es. found es q) (sym (drop-cons places i x lt ∙ ap (λ y. y ∷ drop (suc i) places) (sym is))) ∙ h)
    ] refl

-- names below p, each once, and each that the rest of the table doesn't tell of
pub record ChildrenSoFar (places : List (PathView × Option Place)) (p : PathView) (names : List Name) (rest : List (PathView × Option Place)) : Type 0 where
  pub each : (name : Name) → Contains names name → StandsIn places p name
  pub every : (name : Name) → StandsIn places p name → Contains names name ⊎ (found rest (p ++ name.part ∷ []) ≡ found places (p ++ name.part ∷ []))
  pub parts : All (λ n. IsTrue (is_part n.part)) names
  pub once : IsDistinct bytes_eq (map (λ n. n.part) names)

-- a test of the members' images
list_any-map : {X Y : Type 0} (test : Y → Bool) (f : X → Y) (xs : List X) → list_any test (map f xs) ≡ list_any (λ x. test (f x)) xs
list_any-map test f [] = refl
list_any-map test f (x ∷ xs) = ap (λ r. test (f x) || r) (list_any-map test f xs)

-- none yet
pub ChildrenSoFar-none : (places : List (PathView × Option Place)) (p : PathView) (names : List Name) → names ≡ [] → ChildrenSoFar places p names places
unfolding IsDistinct
ChildrenSoFar-none places p [] e = record { each = λ name held. absurd (omega (arith, held.1)); every = λ name stands. inr refl; parts = λ k d lt. absurd (omega (arith, lt)); once = tt }
ChildrenSoFar-none places p (n ∷ names) e = absurd (cc)

-- past an entry that adds none
pub ChildrenSoFar-kept : (places : List (PathView × Option Place)) (p : PathView) (names names' : List Name) (i : ℕ) (x : PathView × Option Place) → i < length places → x ≡ get_or places i x
    → names' ≡ names → ((name : Name) → StandsIn places p name → IsChild x.0 p name.part → Contains names name)
    → ChildrenSoFar places p names (drop i places) → ChildrenSoFar places p names' (drop (i + 1) places)
ChildrenSoFar-kept places p names names' i x lt is same settled before =
    subst (λ ns. ChildrenSoFar places p ns (drop (i + 1) places)) (sym same) (record {
      each = before.each;
      every = λ name stands. found-passed places i x (p ++ name.part ∷ []) lt is (λ at. settled name stands (record { path = sym at; named = stands.named })) (before.every name stands);
      parts = before.parts;
      once = before.once;
    })

-- past an entry that adds one
pub ChildrenSoFar-more : (places : List (PathView × Option Place)) (p : PathView) (names names' : List Name) (n : Name) (i : ℕ) (x : PathView × Option Place) → i < length places → x ≡ get_or places i x
    → names' ≡ names ++ n ∷ [] → IsTrue (is_part n.part) → StandsIn places p n → IsChild x.0 p n.part → list_any (λ m. bytes_eq n.part m.part) names ≡ false
    → ChildrenSoFar places p names (drop i places) → ChildrenSoFar places p names' (drop (i + 1) places)
ChildrenSoFar-more places p names names' n i x lt is more part stands below fresh before =
    subst (λ ns. ChildrenSoFar places p ns (drop (i + 1) places)) (sym more) (record {
      each = λ name held. elim (Contains-push_cases names n name held) [ inl old ↦ before.each name old | inr new ↦ subst (StandsIn places p) new stands ];
      every = λ name other.
          let added : IsChild x.0 p name.part → Contains (names ++ n ∷ []) name =
          λ there. subst (Contains (names ++ n ∷ [])) (StandsIn-once places p n name stands other ((same_from_push p p n.part name.part (sym below.path ∙ there.path)).1)) (Contains-push names n) in
          let old : Contains (names ++ n ∷ []) name ⊎ (found (drop i places) (p ++ name.part ∷ []) ≡ found places (p ++ name.part ∷ [])) =
          elim (before.every name other) [ inl held ↦ inl (Contains-append_left names (n ∷ []) name held) | inr later ↦ inr later ] in
          found-passed places i x (p ++ name.part ∷ []) lt is (λ at. added (record { path = sym at; named = other.named })) old;
      parts = All-push (λ m. IsTrue (is_part m.part)) names n before.parts part;
      once = subst (IsDistinct bytes_eq) (sym (map-append (λ m. m.part) names (n ∷ []))) (IsDistinct-push nat_list_eq_equiv (map (λ m. m.part) names) n.part before.once (list_any-map (bytes_eq n.part) (λ m. m.part) names ∙ fresh));
    })

-- a part that is among the names settles its name
pub held_already : (places : List (PathView × Option Place)) (p : PathView) (names : List Name) (part : List ℕ) → ((name : Name) → Contains names name → StandsIn places p name)
    → list_any (λ m. bytes_eq part m.part) names ≡ true → (name : Name) → StandsIn places p name → name.part ≡ part → Contains names name
held_already places p names part each held name stands same =
    let (k, m, lt, at, passes) = Any-from_list_any (λ m. bytes_eq part m.part) names held in
    let found_part : name.part ≡ m.part = same ∙ (bytes_eq-Decides part m.part).0 passes in
    let there : Contains names m = (k, lt, at) in
    subst (Contains names) (sym (StandsIn-once places p name m stands (each m there) found_part)) there

-- one path is below another by one part
pub part_same : (child p : PathView) (a b : List ℕ) → IsChild child p a → IsChild child p b → a ≡ b
part_same child p a b one other = (same_from_push p p a b (sym one.path ∙ other.path)).1

-- a path that names nothing has no name that stands
pub untold : (places : List (PathView × Option Place)) (p child : PathView) (name : Name) → found places child ≡ None → StandsIn places p name → IsChild child p name.part → ⊥
untold places p child name nothing stands below =
    let told : found places child ≡ Some stands.place = ap (found places) below.path ∙ stands.found_is in
    let none : ◌≡◌ {A = Option Place} None (Some stands.place) = sym nothing ∙ told in cc

-- a text that the program found not to be empty
pub not_empty : (part bytes : List ℕ) → part ≡ bytes → (length bytes == 0) ≡ false → part ≡ [] → ⊥
not_empty part bytes same full empty = true≢false (ap (λ t. length t == 0) (sym empty ∙ same) ∙ full)

and_left : (a b : Bool) → (a && b) ≡ true → a ≡ true
and_left true b e = refl
and_left false b e = cc

and_right : (a b : Bool) → (a && b) ≡ true → b ≡ true
and_right true b e = e
and_right false b e = cc

no_length : (xs : List ℕ) → length xs ≡ 0 → xs ≡ []
no_length [] e = refl
no_length (x ∷ xs) e = let wrong : ⊥ = omega (arith, e) in absurd wrong

-- the last part of a path may be put behind one, unless it is empty
pub last_is_part : (ps : PathView) (x : List ℕ) → IsPath (ps ++ x ∷ []) → (x ≡ [] → ⊥) → IsTrue (is_part x)
last_is_part [] x h full =
    let first : (nat_eq (length x) 0 || is_part x) ≡ true = and_left (nat_eq (length x) 0 || is_part x) (list_all is_part []) h in
    elim (nat_eq (length x) 0) as (λ b. nat_eq (length x) 0 ≡ b → (b || is_part x) ≡ true → is_part x ≡ true) [
      | true ↦ λ e t. absurd (full (no_length x ((Decides-eqb (length x) 0).0 e)))
      | false ↦ λ e t. t
    ] refl first
last_is_part (p ∷ ps) x h full =
    let rest : list_all is_part (ps ++ x ∷ []) ≡ true = and_right (nat_eq (length p) 0 || is_part p) (list_all is_part (ps ++ x ∷ [])) h in
    and_left (is_part x) (list_all is_part []) (and_right (list_all is_part ps) (list_all is_part (x ∷ [])) (sym (list_all-append is_part ps (x ∷ [])) ∙ rest))

-- what the table tells stands in the state
pub stands_at : (s : State) (places : List (PathView × Option Place)) (nodes : List (ℕ × Node)) → Agrees s places nodes → (p : PathView) (name : Name) → StandsIn places p name → StandsRight s p name
stands_at s places nodes a p name h = record { place = h.place; place_is = sym (a.place_is (p ++ name.part ∷ [])) ∙ h.found_is; kind = h.kind; named = h.named }

pub stands_in : (s : State) (places : List (PathView × Option Place)) (nodes : List (ℕ × Node)) → Agrees s places nodes → (p : PathView) (name : Name) → StandsRight s p name → StandsIn places p name
stands_in s places nodes a p name h = record { place = h.place; found_is = a.place_is (p ++ name.part ∷ []) ∙ h.place_is; kind = h.kind; named = h.named }
