-- One lemma for each look-up: what it gives after a move.
use Rattle.std.proofs.Common.{◌≡◌, ℕ, Bool, true, false, cond, None, Some, nat_eq, option_map, sym, ◌∙◌, ap, refl}
use Rattle.std.specs.Cmp.{IsTotalOrder, nat_cmp_total, unsigned_ties}
use Rattle.std.specs.Cmp.Lexicographic.{slice_cmp, lists_total, lists_ties, texts_ties, nat_list_cmp_total}
use Rattle.std.specs.Ordering.{nat_cmp, eq_by_cmp}
use Rattle.std.specs.FinMap as finmap
use Rattle.std.specs.Option.{option_map_or}
use Rattle.std.proofs.lemmas.Bool.Decides.{Decides-eqb}
use Rattle.jl_folder.specs.declared.moves.Place.{Place}
use Rattle.jl_folder.specs.declared.moves.Place.TheVariants.{Folder, File}
use Rattle.jl_folder.specs.declared.moves.Move.TheVariants.{MakeDir, Create, Append, Rename, Remove, RemoveDir}
use Rattle.jl_folder.specs.declared.moves.Node.{Node}
use Rattle.jl_text.specs.Paths.{PathView, path_eq}
use Rattle.jl_folder.specs.State.{State, Event, path_cmp, place_at, node_at, new_node, appended, frozen_node, changed, renamed_to, after}
use Rattle.jl_folder.specs.Looks.{place_renamed, place_after, node_renamed, node_after}

pub path_total : IsTotalOrder path_cmp
path_total = lists_total nat_list_cmp_total

pub path_ties : (p q : PathView) → path_eq p q ≡ eq_by_cmp path_cmp p q
path_ties = lists_ties (slice_cmp nat_cmp) texts_ties

pub get-place-insert : (m : finmap.FinMap path_cmp Place) (p : PathView) (x : Place) (q : PathView) → finmap.get (finmap.insert m p x) q ≡ cond (path_eq q p) (Some x) (finmap.get m q)
get-place-insert m p x q = finmap.get-insert path_total m p x q ∙ ap (λ b. cond b (Some x) (finmap.get m q)) (sym (path_ties q p))

pub get-place-remove : (m : finmap.FinMap path_cmp Place) (p q : PathView) → finmap.get (finmap.remove m p) q ≡ cond (path_eq q p) None (finmap.get m q)
get-place-remove m p q = finmap.get-remove path_total m p q ∙ ap (λ b. cond b None (finmap.get m q)) (sym (path_ties q p))

pub nat_ties : (k n : ℕ) → nat_eq k n ≡ eq_by_cmp nat_cmp k n
nat_ties = unsigned_ties

pub get-node-insert : (m : finmap.FinMap nat_cmp Node) (n : ℕ) (v : Node) (k : ℕ) → finmap.get (finmap.insert m n v) k ≡ cond (nat_eq k n) (Some v) (finmap.get m k)
get-node-insert m n v k = finmap.get-insert nat_cmp_total m n v k ∙ ap (λ b. cond b (Some v) (finmap.get m k)) (sym (nat_ties k n))

-- a branch that is taken only where the numbers are equal
at_number : {X : Type 0} (k n : ℕ) (x y z : X) → (k ≡ n → x ≡ y) → cond (nat_eq k n) x z ≡ cond (nat_eq k n) y z
at_number k n x y z same =
    elim (nat_eq k n) as (λ b. nat_eq k n ≡ b → cond b x z ≡ cond b y z) [ true ↦ λ t. same ((Decides-eqb k n).0 t) | false ↦ λ _. refl ] refl

either : {X : Type 0} (b : Bool) (x : X) → x ≡ cond b x x
either true x = refl
either false x = refl

pub get-changed : (f : Node → Node) (n : ℕ) (m : finmap.FinMap nat_cmp Node) (k : ℕ) → finmap.get (changed f n m) k ≡ cond (nat_eq k n) (option_map f (finmap.get m k)) (finmap.get m k)
get-changed f n m k =
    elim (finmap.get m n) as (λ x. finmap.get m n ≡ x → finmap.get (option_map_or (λ v. finmap.insert m n (f v)) x m) k ≡ cond (nat_eq k n) (option_map f (finmap.get m k)) (finmap.get m k)) [
      | None ↦ λ e. either (nat_eq k n) (finmap.get m k) ∙ at_number k n _ _ _ (λ is. ap (finmap.get m) is ∙ e ∙ ap (option_map f) (sym e ∙ ap (finmap.get m) (sym is)))
      | Some v ↦ λ e. get-node-insert m n (f v) k ∙ at_number k n _ _ _ (λ is. ap (option_map f) (sym e ∙ ap (finmap.get m) (sym is)))
    ] refl

pub place_at-after : (s : State) (e : Event) (q : PathView) → place_at (after s e) q ≡ place_after s e q
place_at-after s (t, MakeDir p) q = get-place-insert s.places p Folder q
place_at-after s (t, Create p n) q = get-place-insert s.places p (File n) q
place_at-after s (t, Append n bytes) q = refl
place_at-after s (t, Rename p p') q =
    elim (place_at s p) as (λ x. place_at (renamed_to s p p' x) q ≡ place_renamed x p p' q (place_at s q)) [
      | None ↦ refl
      | Some x ↦ elim x as (λ y. place_at (renamed_to s p p' (Some y)) q ≡ place_renamed (Some y) p p' q (place_at s q)) [
        | Folder ↦ refl
        | File n ↦ get-place-insert _ p' (File n) q ∙ ap (cond (path_eq q p') (Some (File n))) (get-place-remove s.places p q)
      ]
    ]
place_at-after s (t, Remove p) q = get-place-remove s.places p q
place_at-after s (t, RemoveDir p) q = get-place-remove s.places p q

pub node_at-after : (s : State) (e : Event) (k : ℕ) → node_at (after s e) k ≡ node_after s e k
node_at-after s (t, MakeDir p) k = refl
node_at-after s (t, Create p n) k = get-node-insert s.nodes n (new_node t) k
node_at-after s (t, Append n bytes) k = get-changed (appended bytes) n s.nodes k
node_at-after s (t, Rename p p') k =
    elim (place_at s p) as (λ x. node_at (renamed_to s p p' x) k ≡ node_renamed x k (node_at s k)) [
      | None ↦ refl
      | Some x ↦ elim x as (λ y. node_at (renamed_to s p p' (Some y)) k ≡ node_renamed (Some y) k (node_at s k)) [
        | Folder ↦ refl
        | File n ↦ get-changed frozen_node n s.nodes k
      ]
    ]
node_at-after s (t, Remove p) k = refl
node_at-after s (t, RemoveDir p) k = refl
