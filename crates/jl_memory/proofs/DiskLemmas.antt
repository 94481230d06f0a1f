-- The tables keep up with the moves.
use Rattle.std.proofs.Common.{◌≡◌, ℕ, List, [], ◌∷◌, ◌++◌, Bool, true, false, cond, Option, None, Some, nat_eq, option_map, sym, ◌∙◌, ap, refl, true≢false, map, length, suc, ◌+◌, add-zero, arith}
use Rattle.std.specs.List.{enumerate_from}
use Rattle.std.specs.FinMap as finmap
use Rattle.std.specs.Cmp.{nat_cmp_total}
use Rattle.std.specs.Ordering.{nat_cmp, eq_by_cmp}
use Rattle.jl_memory.specs.declared.tree.Tree.{Tree}
use Rattle.std.proofs.lemmas.Bool.Decides.{Decides-eqb}
use Rattle.jl_folder.specs.declared.moves.Place.{Place}
use Rattle.jl_folder.specs.declared.moves.Place.TheVariants.{Folder, File}
use Rattle.jl_folder.specs.declared.moves.Move.TheVariants.{MakeDir, Create, Append, Rename, Remove}
use Rattle.jl_folder.specs.declared.moves.Node.{Node}
use Rattle.jl_text.specs.Paths.{PathView, path_eq}
use Rattle.jl_folder.specs.State.{State, Event, place_at, node_at, new_node, appended, frozen_node, after, path_cmp}
use Rattle.jl_folder.specs.Looks.{place_renamed, place_after, node_renamed, node_after}
use Rattle.jl_memory.specs.Tables.{found, found_node, Agrees, start_places, state_of}
use Rattle.jl_folder.proofs.Looks.{place_at-after, node_at-after, path_total, path_ties, nat_ties}
use Rattle.jl_folder.proofs.PathLemmas.{path_eq-Decides}

agrees_by : (s : State) (e : Event) (places : List (PathView × Option Place)) (nodes : List (ℕ × Node))
    → ((q : PathView) → found places q ≡ place_after s e q) → ((k : ℕ) → found_node nodes k ≡ node_after s e k) → Agrees (after s e) places nodes
agrees_by s e places nodes p n = record { place_is = λ q. p q ∙ sym (place_at-after s e q); node_is = λ k. n k ∙ sym (node_at-after s e k) }

module _ (s : State) (t : List ℕ) (places places' : List (PathView × Option Place)) (nodes nodes' : List (ℕ × Node)) (a : Agrees s places nodes) where
  pub agrees-make_dir : (p : PathView) → ((q : PathView) → found places' q ≡ cond (path_eq q p) (Some Folder) (found places q)) → Agrees (after s (t, MakeDir p)) places' nodes
  agrees-make_dir p set = agrees_by s (t, MakeDir p) places' nodes (λ q. set q ∙ ap (cond (path_eq q p) (Some Folder)) (a.place_is q)) a.node_is

  pub agrees-remove : (p : PathView) → ((q : PathView) → found places' q ≡ cond (path_eq q p) None (found places q)) → Agrees (after s (t, Remove p)) places' nodes
  agrees-remove p set = agrees_by s (t, Remove p) places' nodes (λ q. set q ∙ ap (cond (path_eq q p) None) (a.place_is q)) a.node_is

  pub agrees-append : (n : ℕ) (bytes : List ℕ) → ((k : ℕ) → found_node nodes' k ≡ cond (nat_eq k n) (option_map (appended bytes) (found_node nodes k)) (found_node nodes k)) → Agrees (after s (t, Append n bytes)) places nodes'
  agrees-append n bytes set = agrees_by s (t, Append n bytes) places nodes' a.place_is (λ k. set k ∙ ap (λ x. cond (nat_eq k n) (option_map (appended bytes) x) x) (a.node_is k))

  pub agrees-create : (p : PathView) (n : ℕ) → ((q : PathView) → found places' q ≡ cond (path_eq q p) (Some (File n)) (found places q))
      → ((k : ℕ) → found_node nodes' k ≡ cond (nat_eq k n) (Some (new_node t)) (found_node nodes k)) → Agrees (after s (t, Create p n)) places' nodes'
  agrees-create p n set made = agrees_by s (t, Create p n) places' nodes' (λ q. set q ∙ ap (cond (path_eq q p) (Some (File n))) (a.place_is q)) (λ k. made k ∙ ap (cond (nat_eq k n) (Some (new_node t))) (a.node_is k))

swap_paths : {X : Type 0} (a b : Bool) (x y z : X) → (a ≡ true → b ≡ true → ⊥) → cond a x (cond b y z) ≡ cond b y (cond a x z)
swap_paths true true x y z apart = absurd (apart refl refl)
swap_paths true false x y z apart = refl
swap_paths false b x y z apart = refl

-- the new name is set first, and then the old one is cleared
pub agrees-rename : (s : State) (t : List ℕ) (places places' places'' : List (PathView × Option Place)) (nodes nodes' : List (ℕ × Node)) (p p' : PathView) (n : ℕ) → Agrees s places nodes → (p ≡ p' → ⊥) → found places p ≡ Some (File n)
    → ((q : PathView) → found places' q ≡ cond (path_eq q p') (Some (File n)) (found places q))
    → ((q : PathView) → found places'' q ≡ cond (path_eq q p) None (found places' q))
    → ((k : ℕ) → found_node nodes' k ≡ cond (nat_eq k n) (option_map frozen_node (found_node nodes k)) (found_node nodes k)) → Agrees (after s (t, Rename p p')) places'' nodes'
agrees-rename s t places places' places'' nodes nodes' p p' n a apart is set cleared frozen =
    let named : place_at s p ≡ Some (File n) = sym (a.place_is p) ∙ is in
    agrees_by s (t, Rename p p') places'' nodes'
    (λ q. cleared q ∙ ap (cond (path_eq q p) None) (set q ∙ ap (cond (path_eq q p') (Some (File n))) (a.place_is q))
    ∙ swap_paths (path_eq q p) (path_eq q p') None (Some (File n)) (place_at s q) (λ x y. apart (sym ((path_eq-Decides q p).0 x) ∙ (path_eq-Decides q p').0 y))
    ∙ ap (λ x. place_renamed x p p' q (place_at s q)) (sym named))
    (λ k. frozen k ∙ ap (λ x. cond (nat_eq k n) (option_map frozen_node x) x) (a.node_is k) ∙ ap (λ x. node_renamed x k (node_at s k)) (sym named))

-- an entry with a new number at the end of the list
pub found_node-push : (nodes : List (ℕ × Node)) (n : ℕ) (v : Node) → found_node nodes n ≡ None → (k : ℕ) → found_node (nodes ++ (n, v) ∷ []) k ≡ cond (nat_eq k n) (Some v) (found_node nodes k)
found_node-push [] n v none k = refl
found_node-push (e ∷ es) n v none k =
    elim (nat_eq n e.0) as (λ b. nat_eq n e.0 ≡ b → cond b (Some e.1) (found_node es n) ≡ None → found_node ((e ∷ es) ++ (n, v) ∷ []) k ≡ cond (nat_eq k n) (Some v) (found_node (e ∷ es) k)) [
      | true ↦ λ is some. cc
      | false ↦ λ is rest. ap (cond (nat_eq k e.0) (Some e.1)) (found_node-push es n v rest k)
          ∙ swap_paths (nat_eq k e.0) (nat_eq k n) (Some e.1) (Some v) (found_node es k) (λ x y. true≢false (sym (ap (λ r. nat_eq r e.0) (sym ((Decides-eqb k n).0 y)) ∙ x) ∙ is))
    ] refl none

-- what the tables are made of at the start
abbrev pub shown : PathView × Place → PathView × Option Place
shown e = (e.0, Some e.1)

abbrev pub a_folder : PathView → PathView × Place
a_folder p = (p, Folder)

abbrev pub a_file : PathView × ℕ → PathView × Place
a_file e = (e.0, File e.1)

abbrev pub shown_folder : PathView → PathView × Option Place
shown_folder p = (p, Some Folder)

abbrev pub shown_file : PathView × ℕ → PathView × Option Place
shown_file e = (e.0, Some (File e.1))

pub some_places : (fs : List PathView) (ns : List (PathView × ℕ)) → map shown_folder fs ++ map shown_file ns ≡ map shown (map a_folder fs ++ map a_file ns)
some_places [] [] = refl
some_places [] (n ∷ ns) = ap (λ r. shown_file n ∷ r) (some_places [] ns)
some_places (f ∷ fs) ns = ap (λ r. shown_folder f ∷ r) (some_places fs ns)

pub enumerate-push : {X : Type 0} (n : ℕ) (xs : List X) (x : X) → enumerate_from n (xs ++ x ∷ []) ≡ enumerate_from n xs ++ (n + length xs, x) ∷ []
enumerate-push n [] x = ap (λ k. (k, x) ∷ []) (sym (add-zero n))
enumerate-push n (y ∷ ys) x =
    let count : (n + 1) + length ys ≡ n + suc (length ys) = omega arith in
    ap (λ r. (n, y) ∷ r) (enumerate-push (n + 1) ys x ∙ ap (λ k. enumerate_from (n + 1) ys ++ (k, x) ∷ []) count)

found_all : (es : List (PathView × Place)) (q : PathView) → found (map (λ e. (e.0, Some e.1)) es) q ≡ finmap.find path_cmp q es
found_all [] q = refl
found_all (e ∷ es) q = ap (λ b. cond b (Some e.1) (found (map (λ e. (e.0, Some e.1)) es) q)) (path_ties q e.0) ∙ ap (cond (eq_by_cmp path_cmp q e.0) (Some e.1)) (found_all es q)

found_node_all : (es : List (ℕ × Node)) (k : ℕ) → found_node es k ≡ finmap.find nat_cmp k es
found_node_all [] k = refl
found_node_all (e ∷ es) k = ap (λ b. cond b (Some e.1) (found_node es k)) (nat_ties k e.0) ∙ ap (cond (eq_by_cmp nat_cmp k e.0) (Some e.1)) (found_node_all es k)

pub agrees_start : (t : Tree) → Agrees (state_of t) (map (λ e. (e.0, Some e.1)) (start_places t)) (enumerate_from 0 t.nodes)
agrees_start t = record {
  place_is = λ q. found_all (start_places t) q ∙ sym (finmap.get-from_entries path_total (start_places t) q);
  node_is = λ k. found_node_all (enumerate_from 0 t.nodes) k ∙ sym (finmap.get-from_entries nat_cmp_total (enumerate_from 0 t.nodes) k);
}
