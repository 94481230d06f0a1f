-- What the nodes named by some paths have, a move keeps.
use Rattle.std.proofs.Common.{◌≡◌, ◌≢◌, ⊎_elim, ℕ, List, None, Some, sym, ap, subst, ◌∙◌}
use Rattle.jl_text.specs.Paths.{PathView}
use Rattle.jl_folder.specs.declared.moves.Place.TheVariants.{File}
use Rattle.jl_folder.specs.declared.moves.Node.{Node}
use Rattle.jl_folder.specs.declared.moves.Move.TheVariants.{MakeDir, Create, Append, Rename, Remove, RemoveDir}
use Rattle.jl_folder.specs.State.{State, IsState, place_at, node_at, new_node, appended, frozen_node, after}
use Rattle.jl_rely.proofs.Effects.{created_node, created_nodes, appended_node, appended_nodes, renamed_node, renamed_nodes}
use Rattle.jl_protocol.specs.Tidy.{NodeHas}
use Rattle.jl_protocol.proofs.Before.{one_value, some_not_none, renumber, node_of, same_number, made_files, created_files, removed_places, unmade_places, renamed_files}

-- the nodes that these paths name have Q
abbrev pub AllHave : (PathView → Type 0) → (Node → Type 0) → State → Type 0
AllHave C Q s = (x : PathView) → C x → NodeHas s x Q

module _ (s : State) (t : List ℕ) (ok : IsState s) (C : PathView → Type 0) (Q : Node → Type 0) (all : AllHave C Q s) where
  pub kept_make_dir : (p : PathView) → AllHave C Q (after s (t, MakeDir p))
  kept_make_dir p x c n v e f = all x c n v (made_files s t p x n e) f

  pub kept_remove_dir : (p : PathView) → AllHave C Q (after s (t, RemoveDir p))
  kept_remove_dir p x c n v e f = all x c n v (unmade_places s t p x (File n) e).1 f

  pub kept_remove : (p : PathView) → AllHave C Q (after s (t, Remove p))
  kept_remove p x c n v e f = all x c n v (removed_places s t p x (File n) e).1 f

  pub kept_create : (p : PathView) (m : ℕ) → node_at s m ≡ None → (C p → Q (new_node t)) → AllHave C Q (after s (t, Create p m))
  kept_create p m fresh new x c n v e f =
      ⊎_elim
      (λ (is : (x ≡ p) × (n ≡ m)).
      subst Q (one_value _ (new_node t) v (ap (node_at (after s (t, Create p m))) is.1 ∙ created_node s t p m) f) (new (subst C is.0 c)))
      (λ (old : (x ≢ p) × (place_at s x ≡ Some (File n))).
      let was = node_of s ok x n old.1 in
      let other : n ≢ m = λ is. some_not_none _ was.0 was.1 (ap (node_at s) is ∙ fresh) in
      all x c n v old.1 (sym (created_nodes s t p m n other) ∙ f))
      (created_files s t p x m n e)

  pub kept_append : (m : ℕ) (bytes : List ℕ) → ((x : PathView) (v : Node) → C x → place_at s x ≡ Some (File m) → node_at s m ≡ Some v → Q v → Q (appended bytes v)) → AllHave C Q (after s (t, Append m bytes))
  kept_append m bytes more x c n v e f =
      ⊎_elim
      (λ (is : n ≡ m).
      let was = node_of s ok x n e in
      let at_m : node_at s m ≡ Some was.0 = ap (node_at s) (sym is) ∙ was.1 in
      subst Q (one_value _ (appended bytes was.0) v (ap (node_at (after s (t, Append m bytes))) is ∙ appended_node s t m bytes was.0 at_m) f)
      (more x was.0 c (renumber _ n m is e) at_m (all x c n was.0 e was.1)))
      (λ (ne : n ≢ m). all x c n v e (sym (appended_nodes s t m bytes n ne) ∙ f))
      (same_number n m)

  pub kept_rename : (p q : PathView) (m : ℕ) → place_at s p ≡ Some (File m) → ((x y : PathView) (n : ℕ) → place_at s x ≡ Some (File n) → place_at s y ≡ Some (File n) → x ≡ y) → ((v : Node) → C q → node_at s m ≡ Some v → Q (frozen_node v)) → AllHave C Q (after s (t, Rename p q))
  kept_rename p q m is one moved x c n v e f =
      ⊎_elim
      (λ (new : (x ≡ q) × (n ≡ m)).
      let was = node_of s ok p m is in
      subst Q (one_value _ (frozen_node was.0) v (ap (node_at (after s (t, Rename p q))) new.1 ∙ renamed_node s t p q m was.0 is was.1) f) (moved was.0 (subst C new.0 c) was.1))
      (λ (old : (x ≢ q) × (x ≢ p) × (place_at s x ≡ Some (File n))).
      let other : n ≢ m = λ eq. old.1 (one x p m (renumber _ n m eq old.2) is) in
      all x c n v old.2 (sym (renamed_nodes s t p q m n is other) ∙ f))
      (renamed_files s t p q m is x n e)
