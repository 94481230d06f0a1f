-- What the paths of a tree name, and when a tree is a state.
use Rattle.std.proofs.Common.{◌≡◌, ℕ, zero, suc, ◌+◌, ◌<◌, ◌≤◌, List, [], ◌∷◌, ◌++◌, Bool, true, false, cond, ◌||◌, ◌&&◌, not, Option, None, Some, IsSome, is_some, nat_eq, map, length, get_or, All, sym, ◌∙◌, ap, subst, refl, true≢false, arith}
use Rattle.std.specs.List.{list_any, enumerate_from}
use Rattle.std.specs.Option.{option_map_or}
use Rattle.std.proofs.lemmas.List.Elements.{All-head, All-tail}
use Rattle.std.proofs.lemmas.Bool.Decides.{Decides-eqb}
use Rattle.jl_folder.specs.declared.moves.Place.{Place}
use Rattle.jl_folder.specs.declared.moves.Place.TheVariants.{Folder, File}
use Rattle.jl_folder.specs.declared.moves.Node.{Node}
use Rattle.jl_text.specs.Paths.{PathView, path_eq, is_fixed, parent}
use Rattle.jl_folder.specs.State.{IsState, place_at, node_at, has_parent, is_folder, is_file, is_file_place}
use Rattle.jl_folder.proofs.PathLemmas.{path_eq-Decides, path_eq-same}
use Rattle.jl_memory.specs.declared.tree.Tree.{Tree}
use Rattle.jl_memory.specs.Tables.{found, found_node, state_of}
use Rattle.jl_memory.specs.Trees.{StandsWell}
use Rattle.jl_memory.proofs.DiskLemmas.{agrees_start, some_places, shown_folder, shown_file}

no_zero : (n : ℕ) → 0 < n → nat_eq n 0 ≡ false
no_zero n lt = elim (nat_eq n 0) as (λ b. nat_eq n 0 ≡ b → b ≡ false) [
  | true ↦ λ is. let same : n ≡ 0 = (Decides-eqb n 0).0 is in let bad : ⊥ = omega (arith, lt, same) in absurd bad
  | false ↦ λ _. refl
] refl

-- the two folders that are always there are the fixed paths
fixed_two : (q : PathView) (x r : Option Place) → cond (path_eq q []) x (cond (path_eq q ([] ∷ [])) x r) ≡ cond (is_fixed q) x r
fixed_two [] x r = refl
fixed_two ([] ∷ []) x r = refl
fixed_two ([] ∷ (p ∷ ps)) x r = let free : nat_eq (0 + suc (length ps)) 0 ≡ false = no_zero (0 + suc (length ps)) (omega arith) in sym (ap (λ b. cond b x r) free)
fixed_two ((c ∷ cs) ∷ ps) x r = let free : nat_eq (suc (length cs) + length ps) 0 ≡ false = no_zero (suc (length cs) + length ps) (omega arith) in sym (ap (λ b. cond b x r) free)

some_folder : (a b : Bool) (x r : Option Place) → cond a x (cond b x r) ≡ cond (a || b) x r
some_folder true b x r = refl
some_folder false b x r = refl

found_folders : (fs : List PathView) (ns : List (PathView × ℕ)) (q : PathView) → found (map shown_folder fs ++ map shown_file ns) q ≡ cond (list_any (λ p. path_eq q p) fs) (Some Folder) (found (map shown_file ns) q)
found_folders [] ns q = refl
found_folders (f ∷ fs) ns q = ap (cond (path_eq q f) (Some Folder)) (found_folders fs ns q) ∙ some_folder (path_eq q f) (list_any (λ p. path_eq q p) fs) (Some Folder) (found (map shown_file ns) q)

-- what a path names in a tree
pub tree_place : (t : Tree) (q : PathView) → place_at (state_of t) q ≡ cond (is_fixed q) (Some Folder) (cond (list_any (λ p. path_eq q p) t.folders) (Some Folder) (found (map shown_file t.names) q))
tree_place t q =
    sym ((agrees_start t).place_is q) ∙ ap (λ es. cond (path_eq q []) (Some Folder) (cond (path_eq q ([] ∷ [])) (Some Folder) (found es q))) (sym (some_places t.folders t.names))
    ∙ ap (λ r. cond (path_eq q []) (Some Folder) (cond (path_eq q ([] ∷ [])) (Some Folder) r)) (found_folders t.folders t.names q)
    ∙ fixed_two q (Some Folder) (cond (list_any (λ p. path_eq q p) t.folders) (Some Folder) (found (map shown_file t.names) q))

node_within : (xs : List Node) (from n : ℕ) → from ≤ n → n < from + length xs → IsSome (found_node (enumerate_from from xs) n)
node_within [] from n le lt = let bad : ⊥ = omega (arith, le, lt) in absurd bad
node_within (x ∷ xs) from n le lt = elim (nat_eq n from) as (λ b. nat_eq n from ≡ b → IsSome (cond b (Some x) (found_node (enumerate_from (from + 1) xs) n))) [
  | true ↦ λ _. refl
  | false ↦ λ apart.
      let other : n ≡ from → ⊥ = λ same. true≢false (sym ((Decides-eqb n from).1 same) ∙ apart) in
      let le' : from + 1 ≤ n = omega (arith, le, other) in
      let lt' : n < (from + 1) + length xs = omega (arith, lt) in
      node_within xs (from + 1) n le' lt'
] refl

node_beyond : (xs : List Node) (from n : ℕ) → from + length xs ≤ n → found_node (enumerate_from from xs) n ≡ None
node_beyond [] from n le = refl
node_beyond (x ∷ xs) from n le = elim (nat_eq n from) as (λ b. nat_eq n from ≡ b → cond b (Some x) (found_node (enumerate_from (from + 1) xs) n) ≡ None) [
  | true ↦ λ is. let same : n ≡ from = (Decides-eqb n from).0 is in let bad : ⊥ = omega (arith, le, same) in absurd bad
  | false ↦ λ _. let le' : (from + 1) + length xs ≤ n = omega (arith, le) in node_beyond xs (from + 1) n le'
] refl

-- the nodes of a tree are numbered by their places
pub tree_node : (t : Tree) (n : ℕ) → n < length t.nodes → IsSome (node_at (state_of t) n)
tree_node t n lt = subst IsSome ((agrees_start t).node_is n) (node_within t.nodes 0 n (omega arith) (omega (arith, lt)))

pub tree_no_node : (t : Tree) (n : ℕ) → length t.nodes ≤ n → IsSome (node_at (state_of t) n) → ⊥
tree_no_node t n le some = true≢false (sym (subst IsSome (sym ((agrees_start t).node_is n)) some) ∙ ap is_some (node_beyond t.nodes 0 n (omega (arith, le))))

among_folders : (P : PathView → Type 0) (fs : List PathView) (q : PathView) → All P fs → list_any (λ p. path_eq q p) fs ≡ true → P q
among_folders P [] q all hit = absurd (true≢false (sym hit))
among_folders P (f ∷ fs) q all hit = elim (path_eq q f) as (λ b. path_eq q f ≡ b → (b || list_any (λ p. path_eq q p) fs) ≡ true → P q) [
  | true ↦ λ is _. subst P (sym ((path_eq-Decides q f).0 is)) (All-head P f fs all)
  | false ↦ λ _ rest. among_folders P fs q (All-tail P f fs all) rest
] refl hit

among_names : (P : PathView → Type 0) (ns : List (PathView × ℕ)) (q : PathView) → All (λ e. P e.0) ns → IsSome (found (map shown_file ns) q) → P q
among_names P [] q all some = absurd (true≢false (sym some))
among_names P (n ∷ ns) q all some = elim (path_eq q n.0) as (λ b. path_eq q n.0 ≡ b → IsSome (cond b (Some (File n.1)) (found (map shown_file ns) q)) → P q) [
  | true ↦ λ is _. subst P (sym ((path_eq-Decides q n.0).0 is)) (All-head (λ e. P e.0) n ns all)
  | false ↦ λ _ rest. among_names P ns q (All-tail (λ e. P e.0) n ns all) rest
] refl some

-- each path that stands is listed, and so stands well
stands_all : (t : Tree) → All (StandsWell t) t.folders → All (λ e. StandsWell t e.0) t.names → (q : PathView) → is_fixed q ≡ false → IsSome (place_at (state_of t) q) → StandsWell t q
stands_all t folders names q free some =
    let there : IsSome (cond (is_fixed q) (Some Folder) (cond (list_any (λ p. path_eq q p) t.folders) (Some Folder) (found (map shown_file t.names) q))) = subst IsSome (tree_place t q) some in
    let listed : IsSome (cond (list_any (λ p. path_eq q p) t.folders) (Some Folder) (found (map shown_file t.names) q)) = subst (λ b. IsSome (cond b (Some Folder) (cond (list_any (λ p. path_eq q p) t.folders) (Some Folder) (found (map shown_file t.names) q)))) free there in
    elim (list_any (λ p. path_eq q p) t.folders) as (λ b. list_any (λ p. path_eq q p) t.folders ≡ b → IsSome (cond b (Some Folder) (found (map shown_file t.names) q)) → StandsWell t q) [
      | true ↦ λ hit _. among_folders (StandsWell t) t.folders q folders hit
      | false ↦ λ _ named. among_names (StandsWell t) t.names q names named
    ] refl listed

-- a fixed path is a folder
pub fixed_folder : (t : Tree) (q : PathView) → is_fixed q ≡ true → place_at (state_of t) q ≡ Some Folder
fixed_folder t q fixed = tree_place t q ∙ ap (λ b. cond b (Some Folder) (cond (list_any (λ p. path_eq q p) t.folders) (Some Folder) (found (map shown_file t.names) q))) fixed

-- where all that is listed stands well, the tree is a state
pub tree_state : (t : Tree) → All (StandsWell t) t.folders → All (λ e. StandsWell t e.0) t.names → IsState (state_of t)
tree_state t folders names = record {
  here = fixed_folder t [] refl;
  top = fixed_folder t ([] ∷ []) refl;
  parents = λ p free some. (stands_all t folders names p free some).parent free;
  nodes = λ p n is. elim (is_fixed p) as (λ b. is_fixed p ≡ b → IsSome (node_at (state_of t) n)) [
    | true ↦ λ fixed. absurd (no_file n (sym (fixed_folder t p fixed) ∙ is))
    | false ↦ λ free. (stands_all t folders names p free (ap is_some is)).node n is
  ] refl;
}
  where
    no_file : (n : ℕ) → Some Folder ≡ Some (File n) → ⊥
    no_file n e = cc

list_any_at : {X : Type 0} (test : X → Bool) (xs : List X) (i : ℕ) (d : X) → i < length xs → test (get_or xs i d) ≡ true → list_any test xs ≡ true
list_any_at test [] i d lt hit = let bad : ⊥ = omega (arith, lt) in absurd bad
list_any_at test (x ∷ xs) zero d lt hit = ap (λ b. b || list_any test xs) hit
list_any_at test (x ∷ xs) (suc i) d lt hit = elim (test x) as (λ b. (b || list_any test xs) ≡ true) [ true ↦ refl | false ↦ list_any_at test xs i d (omega arith) hit ]

either_some : (b : Bool) (x : Place) (r : Option Place) → IsSome r → IsSome (cond b (Some x) r)
either_some true x r some = refl
either_some false x r some = some

found_at : (ns : List (PathView × ℕ)) (i : ℕ) (d : PathView × ℕ) → i < length ns → IsSome (found (map shown_file ns) (get_or ns i d).0)
found_at [] i d lt = let bad : ⊥ = omega (arith, lt) in absurd bad
found_at (n ∷ ns) zero d lt = ap (λ b. is_some (cond b (Some (File n.1)) (found (map shown_file ns) n.0))) (path_eq-same n.0)
found_at (n ∷ ns) (suc i) d lt = either_some (path_eq (get_or ns i d).0 n.0) (File n.1) (found (map shown_file ns) (get_or ns i d).0) (found_at ns i d (omega arith))

-- what is listed names something
placed : (t : Tree) (q : PathView) → IsSome (cond (list_any (λ p. path_eq q p) t.folders) (Some Folder) (found (map shown_file t.names) q)) → IsSome (place_at (state_of t) q)
placed t q some = subst IsSome (sym (tree_place t q)) (either_some (is_fixed q) Folder (cond (list_any (λ p. path_eq q p) t.folders) (Some Folder) (found (map shown_file t.names) q)) some)

state_stands : (t : Tree) → IsState (state_of t) → (p : PathView) → IsSome (place_at (state_of t) p) → StandsWell t p
state_stands t state p some = record { parent = λ free. state.parents p free some; node = state.nodes p }

-- in a state all that is listed stands well
pub folders_stand : (t : Tree) → IsState (state_of t) → All (StandsWell t) t.folders
folders_stand t state = λ k d lt.
    let p = get_or t.folders k d in
    let hit : list_any (λ r. path_eq p r) t.folders ≡ true = list_any_at (λ r. path_eq p r) t.folders k d lt (path_eq-same p) in
    state_stands t state p (placed t p (ap (λ b. is_some (cond b (Some Folder) (found (map shown_file t.names) p))) hit))

pub names_stand : (t : Tree) → IsState (state_of t) → All (λ e. StandsWell t e.0) t.names
names_stand t state = λ k d lt.
    let p = (get_or t.names k d).0 in
    state_stands t state p (placed t p (either_some (list_any (λ r. path_eq p r) t.folders) Folder (found (map shown_file t.names) p) (found_at t.names k d lt)))

-- a fixed path stands well
pub fixed_stands : (t : Tree) (p : PathView) → is_fixed p ≡ true → StandsWell t p
fixed_stands t p fixed = record {
  parent = λ free. absurd (true≢false (sym fixed ∙ free));
  node = λ n is. absurd (folder_no_file n (sym (fixed_folder t p fixed) ∙ is));
}
  where
    folder_no_file : (n : ℕ) → Some Folder ≡ Some (File n) → ⊥
    folder_no_file n e = cc

parent_folder : (t : Tree) (p : PathView) → is_fixed p ≡ false → has_parent (state_of t) p ≡ is_folder (state_of t) (parent p)
parent_folder t p free = ap (λ b. not b && is_folder (state_of t) (parent p)) free

-- below no folder a path doesn't
pub orphan : (t : Tree) (p : PathView) → is_fixed p ≡ false → is_folder (state_of t) (parent p) ≡ false → StandsWell t p → ⊥
orphan t p free none stands = true≢false (sym (stands.parent free) ∙ parent_folder t p free ∙ none)

-- a path below a folder that names no file does
pub folder_stands : (t : Tree) (p : PathView) → is_fixed p ≡ false → is_folder (state_of t) (parent p) ≡ true → is_file (state_of t) p ≡ false → StandsWell t p
folder_stands t p free folder none = record {
  parent = λ _. parent_folder t p free ∙ folder;
  node = λ n is. absurd (true≢false (sym (ap (λ o. option_map_or is_file_place o false) is) ∙ none));
}

-- and one that names a file does where the file has its node
pub file_stands : (t : Tree) (p : PathView) (n : ℕ) → is_fixed p ≡ false → is_folder (state_of t) (parent p) ≡ true → place_at (state_of t) p ≡ Some (File n) → n < length t.nodes → StandsWell t p
file_stands t p n free folder is lt = record {
  parent = λ _. parent_folder t p free ∙ folder;
  node = λ m other. let same : n ≡ m = cc in subst (λ k. IsSome (node_at (state_of t) k)) same (tree_node t n lt);
}
