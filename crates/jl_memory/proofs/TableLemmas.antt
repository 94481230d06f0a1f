-- Changes of the tables, by what is found in them.
use Rattle.std.proofs.Common.{◌≡◌, ℕ, suc, ◌+◌, ◌<◌, ◌≤◌, List, [], ◌∷◌, ◌++◌, Bool, true, false, cond, Option, None, Some, nat_eq, option_map, length, take, drop, get_or, sym, ◌∙◌, ap, refl, arith, add-one, true≢false, is_some, ◌⊎◌, inl, inr}
use Rattle.std.proofs.Math.ListN.{set}
use Rattle.std.proofs.Math.Seq.{drop-cons, set-append_seam}
use Rattle.std.proofs.lemmas.List.{take-append-drop, length-take-le, take_all, drop_all, get_or_default, append-nil}
use Rattle.std.proofs.lemmas.Bool.Decides.{Decides-eqb}
use Rattle.jl_folder.specs.declared.moves.Place.{Place}
use Rattle.jl_folder.specs.declared.moves.Node.{Node}
use Rattle.jl_text.specs.Paths.{PathView, path_eq}
use Rattle.jl_folder.proofs.PathLemmas.{path_eq-Decides}
use Rattle.jl_memory.specs.Tables.{found, found_node, with_first, with_place, with_node}

set_is : {E : Type 0} (es : List E) (i : ℕ) (d y : E) → i < length es → set es i y ≡ take i es ++ y ∷ drop (suc i) es
set_is es i d y lt =
    let split : take i es ++ (get_or es i d ∷ drop (suc i) es) ≡ es = ap (λ r. take i es ++ r) (sym (drop-cons es i d lt)) ∙ take-append-drop i es in
    let le : i ≤ length es = omega arith in
    let len : length (take i es) ≡ i = length-take-le i es le in
    ap (λ l. set l i y) (sym split) ∙ ap (λ j. set (take i es ++ get_or es i d ∷ drop (suc i) es) j y) (sym len) ∙ set-append_seam (take i es) (get_or es i d) (drop (suc i) es) y

module _ {E : Type 0} (hit : E → Bool) (f : E → E) (others : List E) where
  -- the loop's invariant at the first entry
  pub with_first-begin : (es : List E) → with_first hit f others es ≡ take 0 es ++ with_first hit f others (drop 0 es)
  with_first-begin [] = refl
  with_first-begin (e ∷ es) = refl

  -- at an entry that passes, read as x and as x'
  pub with_first-hit : (es : List E) (i : ℕ) (x x' : E) → i < length es → x ≡ get_or es i x → x' ≡ get_or es i x' → hit x ≡ true
      → with_first hit f others es ≡ take i es ++ with_first hit f others (drop i es) → set es i (f x') ≡ with_first hit f others es
  with_first-hit es i x x' lt is is' hits passed =
      let same : x ≡ x' = is ∙ get_or_default es i x x' lt ∙ sym is' in
      set_is es i x (f x') lt ∙ sym (passed ∙ ap (λ r. take i es ++ with_first hit f others r) (drop-cons es i x lt ∙ ap (λ y. y ∷ drop (suc i) es) (sym is))
      ∙ ap (λ b. take i es ++ cond b (f x ∷ drop (suc i) es) (x ∷ with_first hit f others (drop (suc i) es))) hits ∙ ap (λ y. take i es ++ f y ∷ drop (suc i) es) same)

  -- past all entries
  pub with_first-end : (es : List E) (i : ℕ) → length es ≤ i → with_first hit f others es ≡ take i es ++ with_first hit f others (drop i es) → with_first hit f others es ≡ es ++ others
  with_first-end es i le passed = passed ∙ ap (λ r. take i es ++ with_first hit f others r) (drop_all i es le) ∙ ap (λ r. r ++ others) (take_all i es le)

swap_tests : {X : Type 0} (a b : Bool) (x y z : X) → (a ≡ true → b ≡ true → x ≡ y) → cond a x (cond b y z) ≡ cond b y (cond a x z)
swap_tests true true x y z same = same refl refl
swap_tests true false x y z same = refl
swap_tests false b x y z same = refl

repeated : {X : Type 0} (b : Bool) (x y z : X) → cond b x z ≡ cond b x (cond b y z)
repeated true x y z = refl
repeated false x y z = refl

no_choice : {X : Type 0} (b : Bool) (x : X) → cond b x x ≡ x
no_choice true x = refl
no_choice false x = refl

-- an entry that says nothing changes nothing at the end of the list
pub found-push_none : (es : List (PathView × Option Place)) (p q : PathView) → found (es ++ (p, None) ∷ []) q ≡ found es q
found-push_none [] p q = no_choice (path_eq q p) None
found-push_none (e ∷ es) p q = ap (cond (path_eq q e.0) e.1) (found-push_none es p q)

pub found-with_place : (es : List (PathView × Option Place)) (p : PathView) (what : Option Place) (q : PathView) → found (with_place es p what) q ≡ cond (path_eq q p) what (found es q)
found-with_place [] p what q = refl
found-with_place (e ∷ es) p what q =
    elim (path_eq e.0 p) as (λ b. path_eq e.0 p ≡ b → found (cond b ((e.0, what) ∷ es) (e ∷ with_place es p what)) q ≡ cond (path_eq q p) what (found (e ∷ es) q)) [
      | true ↦ λ t. let is : e.0 ≡ p = (path_eq-Decides e.0 p).0 t in ap (λ r. cond (path_eq q r) what (found es q)) is ∙ repeated (path_eq q p) what e.1 (found es q) ∙ ap (λ r. cond (path_eq q p) what (cond (path_eq q r) e.1 (found es q))) (sym is)
      | false ↦ λ t. ap (cond (path_eq q e.0) e.1) (found-with_place es p what q)
          ∙ swap_tests (path_eq q e.0) (path_eq q p) e.1 what (found es q) (λ a b. absurd (true≢false (sym (ap (λ r. path_eq r p) (sym ((path_eq-Decides q e.0).0 a)) ∙ b) ∙ t)))
    ] refl

changed_nothing : (b : Bool) → let none : Option Node = None in none ≡ cond b none none
changed_nothing true = refl
changed_nothing false = refl

changed_here : (b : Bool) (f : Node → Node) (v : Node) (r : Option Node) → cond b (Some (f v)) r ≡ cond b (option_map f (cond b (Some v) r)) (cond b (Some v) r)
changed_here true f v r = refl
changed_here false f v r = refl

changed_later : (a b : Bool) (f : Node → Node) (v : Node) (r : Option Node) → (a ≡ true → b ≡ true → ⊥) → cond a (Some v) (cond b (option_map f r) r) ≡ cond b (option_map f (cond a (Some v) r)) (cond a (Some v) r)
changed_later true true f v r apart = absurd (apart refl refl)
changed_later true false f v r apart = refl
changed_later false b f v r apart = refl

pub found_node-with_node : (f : Node → Node) (es : List (ℕ × Node)) (n k : ℕ) → found_node (with_node f es n) k ≡ cond (nat_eq k n) (option_map f (found_node es k)) (found_node es k)
found_node-with_node f [] n k = changed_nothing (nat_eq k n)
found_node-with_node f (e ∷ es) n k =
    elim (nat_eq e.0 n) as (λ b. nat_eq e.0 n ≡ b → found_node (cond b ((e.0, f e.1) ∷ es) (e ∷ with_node f es n)) k ≡ cond (nat_eq k n) (option_map f (found_node (e ∷ es) k)) (found_node (e ∷ es) k)) [
      | true ↦ λ t. changed_here (nat_eq k e.0) f e.1 (found_node es k) ∙ ap (λ r. cond (nat_eq k r) (option_map f (found_node (e ∷ es) k)) (found_node (e ∷ es) k)) ((Decides-eqb e.0 n).0 t)
      | false ↦ λ t. ap (cond (nat_eq k e.0) (Some e.1)) (found_node-with_node f es n k)
          ∙ changed_later (nat_eq k e.0) (nat_eq k n) f e.1 (found_node es k) (λ a b. true≢false (sym (ap (λ r. nat_eq r n) (sym ((Decides-eqb k e.0).0 a)) ∙ b) ∙ t))
    ] refl

-- the node of the first entry with this number is changed, in place
pub found_node-hit : (f : Node → Node) (es₀ es : List (ℕ × Node)) (i : ℕ) (x x' : ℕ × Node) (n : ℕ) → es ≡ es₀ → i < length es → x ≡ get_or es i x → x' ≡ get_or es i x' → x.0 ≡ n
    → with_node f es n ≡ take i es ++ with_node f (drop i es) n → (k : ℕ) → found_node (set es i (x'.0, f x'.1)) k ≡ cond (nat_eq k n) (option_map f (found_node es₀ k)) (found_node es₀ k)
found_node-hit f es₀ es i x x' n same lt is is' hits passed k =
    ap (λ l. found_node l k) (with_first-hit (λ e. nat_eq e.0 n) (λ e. (e.0, f e.1)) [] es i x x' lt is is' ((Decides-eqb x.0 n).1 hits) passed ∙ ap (λ l. with_node f l n) same) ∙ found_node-with_node f es₀ n k

-- there is no such entry
pub found_node-miss : (f : Node → Node) (es₀ es : List (ℕ × Node)) (i n : ℕ) → es ≡ es₀ → length es ≤ i
    → with_node f es n ≡ take i es ++ with_node f (drop i es) n → (k : ℕ) → found_node es k ≡ cond (nat_eq k n) (option_map f (found_node es₀ k)) (found_node es₀ k)
found_node-miss f es₀ es i n same le passed k =
    ap (λ l. found_node l k) (sym (with_first-end (λ e. nat_eq e.0 n) (λ e. (e.0, f e.1)) [] es i le passed ∙ append-nil es) ∙ ap (λ l. with_node f l n) same) ∙ found_node-with_node f es₀ n k

-- a path that is passed over, where each path that counts names nothing or stands later
pub found-step : (places : List (PathView × Option Place)) (i : ℕ) (x : PathView × Option Place) (q : PathView) → i < length places → x ≡ get_or places i x → (q ≡ x.0 → found places q ≡ None)
    → (found places q ≡ None) ⊎ (found (drop i places) q ≡ found places q) → (found places q ≡ None) ⊎ (found (drop (i + 1) places) q ≡ found places q)
found-step places i x q lt is none (inl h) = inl h
found-step places i x q lt is none (inr h) =
    elim (path_eq q x.0) as (λ b. path_eq q x.0 ≡ b → (found places q ≡ None) ⊎ (found (drop (i + 1) places) q ≡ found places q)) [
      | true ↦ λ t. inl (none ((path_eq-Decides q x.0).0 t))
      | false ↦ λ t. inr (ap (λ k. found (drop k places) q) (add-one i) ∙ ap (λ b. cond b x.1 (found (drop (suc i) places) q)) (sym t) ∙ ap (λ es. found es q) (sym (drop-cons places i x lt ∙ ap (λ y. y ∷ drop (suc i) places) (sym is))) ∙ h)
    ] refl

pub not_some : {X : Type 0} (o : Option X) → is_some o ≡ false → o ≡ None
not_some None e = refl
not_some (Some x) e = absurd (true≢false e)
