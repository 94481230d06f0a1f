-- What the look-ups give where a move was made.
use Rattle.std.proofs.Common.{◌≡◌, ◌≢◌, ℕ, List, true, false, cond, nat_eq, option_map, None, Some, refl, ap, ◌∙◌}
use Rattle.std.proofs.lemmas.Bool.Decides.{Decides-eqb}
use Rattle.jl_text.specs.Paths.{PathView, path_eq}
use Rattle.jl_folder.specs.declared.moves.Place.TheVariants.{Folder, File}
use Rattle.jl_folder.specs.declared.moves.Node.{Node}
use Rattle.jl_folder.specs.declared.moves.Move.TheVariants.{MakeDir, Create, Append, Rename, Remove, RemoveDir}
use Rattle.jl_folder.specs.State.{State, place_at, node_at, new_node, appended, frozen_node, after}
use Rattle.jl_folder.specs.Looks.{place_renamed, node_renamed}
use Rattle.jl_folder.proofs.Looks.{place_at-after, node_at-after}
use Rattle.jl_folder.proofs.PathLemmas.{path_eq-Decides, path_eq-same}

pub apart_eq : (p q : PathView) → p ≢ q → path_eq p q ≡ false
apart_eq p q ne = elim (path_eq p q) as (λ b. path_eq p q ≡ b → b ≡ false) [ true ↦ λ e. absurd (ne ((path_eq-Decides p q).0 e)) | false ↦ λ e. refl ] refl

pub number_same : (n : ℕ) → nat_eq n n ≡ true
number_same n = (Decides-eqb n n).1 refl

pub number_apart : (k n : ℕ) → k ≢ n → nat_eq k n ≡ false
number_apart k n ne = elim (nat_eq k n) as (λ b. nat_eq k n ≡ b → b ≡ false) [ true ↦ λ e. absurd (ne ((Decides-eqb k n).0 e)) | false ↦ λ e. refl ] refl

module _ (s : State) (t : List ℕ) where
  -- ---- names

  pub made_here : (p : PathView) → place_at (after s (t, MakeDir p)) p ≡ Some Folder
  made_here p = place_at-after s (t, MakeDir p) p ∙ ap (λ b. cond b (Some Folder) (place_at s p)) (path_eq-same p)

  pub created_here : (p : PathView) (n : ℕ) → place_at (after s (t, Create p n)) p ≡ Some (File n)
  created_here p n = place_at-after s (t, Create p n) p ∙ ap (λ b. cond b (Some (File n)) (place_at s p)) (path_eq-same p)

  pub removed_here : (p : PathView) → place_at (after s (t, Remove p)) p ≡ None
  removed_here p = place_at-after s (t, Remove p) p ∙ ap (λ b. cond b None (place_at s p)) (path_eq-same p)

  pub unmade_here : (p : PathView) → place_at (after s (t, RemoveDir p)) p ≡ None
  unmade_here p = place_at-after s (t, RemoveDir p) p ∙ ap (λ b. cond b None (place_at s p)) (path_eq-same p)

  pub renamed_here : (p q : PathView) (n : ℕ) → place_at s p ≡ Some (File n) → place_at (after s (t, Rename p q)) q ≡ Some (File n)
  renamed_here p q n is =
      place_at-after s (t, Rename p q) q ∙ ap (λ o. place_renamed o p q q (place_at s q)) is ∙ ap (λ b. cond b (Some (File n)) (cond (path_eq q p) None (place_at s q))) (path_eq-same q)

  pub renamed_from : (p q : PathView) (n : ℕ) → place_at s p ≡ Some (File n) → p ≢ q → place_at (after s (t, Rename p q)) p ≡ None
  renamed_from p q n is ne =
      place_at-after s (t, Rename p q) p
      ∙ ap (λ o. place_renamed o p q p (place_at s p)) is
      ∙ ap (λ b. cond b (Some (File n)) (cond (path_eq p p) None (place_at s p))) (apart_eq p q ne)
      ∙ ap (λ b. cond b None (place_at s p)) (path_eq-same p)

  -- ---- nodes

  pub created_node : (p : PathView) (n : ℕ) → node_at (after s (t, Create p n)) n ≡ Some (new_node t)
  created_node p n = node_at-after s (t, Create p n) n ∙ ap (λ b. cond b (Some (new_node t)) (node_at s n)) (number_same n)

  pub created_nodes : (p : PathView) (n k : ℕ) → k ≢ n → node_at (after s (t, Create p n)) k ≡ node_at s k
  created_nodes p n k ne = node_at-after s (t, Create p n) k ∙ ap (λ b. cond b (Some (new_node t)) (node_at s k)) (number_apart k n ne)

  pub appended_node : (n : ℕ) (bytes : List ℕ) (v : Node) → node_at s n ≡ Some v → node_at (after s (t, Append n bytes)) n ≡ Some (appended bytes v)
  appended_node n bytes v is =
      node_at-after s (t, Append n bytes) n ∙ ap (λ b. cond b (option_map (appended bytes) (node_at s n)) (node_at s n)) (number_same n) ∙ ap (option_map (appended bytes)) is

  pub appended_nodes : (n : ℕ) (bytes : List ℕ) (k : ℕ) → k ≢ n → node_at (after s (t, Append n bytes)) k ≡ node_at s k
  appended_nodes n bytes k ne = node_at-after s (t, Append n bytes) k ∙ ap (λ b. cond b (option_map (appended bytes) (node_at s k)) (node_at s k)) (number_apart k n ne)

  pub renamed_node : (p q : PathView) (n : ℕ) (v : Node) → place_at s p ≡ Some (File n) → node_at s n ≡ Some v → node_at (after s (t, Rename p q)) n ≡ Some (frozen_node v)
  renamed_node p q n v is at =
      node_at-after s (t, Rename p q) n
      ∙ ap (λ o. node_renamed o n (node_at s n)) is
      ∙ ap (λ b. cond b (option_map frozen_node (node_at s n)) (node_at s n)) (number_same n)
      ∙ ap (option_map frozen_node) at

  pub renamed_nodes : (p q : PathView) (n k : ℕ) → place_at s p ≡ Some (File n) → k ≢ n → node_at (after s (t, Rename p q)) k ≡ node_at s k
  renamed_nodes p q n k is ne =
      node_at-after s (t, Rename p q) k
      ∙ ap (λ o. node_renamed o k (node_at s k)) is
      ∙ ap (λ b. cond b (option_map frozen_node (node_at s k)) (node_at s k)) (number_apart k n ne)
