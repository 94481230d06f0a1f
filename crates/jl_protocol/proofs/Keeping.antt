-- Proper steps keep an opened final node's bytes, whoever makes them.
use Rattle.std.proofs.Common.{◌≡◌, ◌≢◌, inl, inr, ⊎_elim, ℕ, List, None, Some, refl, sym, ap, subst, ◌∙◌, true≢false}
use Rattle.jl_text.specs.Paths.{PathView}
use Rattle.jl_folder.specs.declared.moves.Place.TheVariants.{File}
use Rattle.jl_folder.specs.declared.moves.Node.{Node}
use Rattle.jl_folder.specs.declared.moves.Move.{Move}
use Rattle.jl_folder.specs.declared.moves.Move.TheVariants.{MakeDir, Create, Append, Rename, Remove, RemoveDir}
use Rattle.jl_folder.specs.State.{State, Allowed, place_at, node_at, frozen_node, after}
use Rattle.jl_entry.specs.Names.{Final, IsFinal, IsBelow}
use Rattle.jl_entry.proofs.NameFacts.{final_below}
use Rattle.jl_rely.proofs.Effects.{created_nodes, appended_nodes, renamed_node, renamed_nodes}
use Rattle.jl_rely.proofs.Traces.{IsCarried}
use Rattle.jl_protocol.specs.Whole.{IsWhole}
use Rattle.jl_protocol.specs.Tidy.{IsTidy}
use Rattle.jl_protocol.specs.Proper.{IsOwnOpen, IsProperInside, IsProperOutside, IsProper}
use Rattle.jl_protocol.specs.Owned.{IsKept}
use Rattle.jl_protocol.proofs.Before.{one_value, some_not_none, renumber, node_of, file_of, same_number, made_files, created_files, removed_places, unmade_places, renamed_files}

module _ (root : PathView) (n : ℕ) (bytes : List ℕ) (other : List ℕ) (s : State) (kept : IsKept root n bytes s) where
  append : (m : ℕ) (more : List ℕ) → n ≢ m → IsKept root n bytes (after s (other, Append m more))
  append m more differs = record { node = kept.node; is = appended_nodes s other m more n differs ∙ kept.is; frozen = kept.frozen; same = kept.same; inside = kept.inside }

  not_open : (m : ℕ) → IsOwnOpen other s m → n ≢ m
  not_open m own e = true≢false (sym kept.frozen ∙ ap (λ (v : Node). v.frozen) (one_value _ kept.node own.0 kept.is (ap (node_at s) e ∙ own.1)) ∙ own.3)

  create : (p : PathView) (m : ℕ) → node_at s m ≡ None → IsKept root n bytes (after s (other, Create p m))
  create p m fresh =
      let differs : n ≢ m = λ e. some_not_none _ _ kept.is (ap (node_at s) e ∙ fresh) in
      record {
        node = kept.node;
        is = created_nodes s other p m n differs ∙ kept.is;
        frozen = kept.frozen;
        same = kept.same;
        inside = λ q e. ⊎_elim (λ (new : (q ≡ p) × (n ≡ m)). absurd (differs new.1)) (λ (old : (q ≢ p) × (place_at s q ≡ Some (File n))). kept.inside q old.1) (created_files s other p q m n e);
      }

  -- a rename moves the node to a path below the root, or another node
  rename : (p q : PathView) (m : ℕ) → place_at s p ≡ Some (File m) → (n ≡ m → IsBelow root q) → IsKept root n bytes (after s (other, Rename p q))
  rename p q m is below =
      let names : (r : PathView) → place_at (after s (other, Rename p q)) r ≡ Some (File n) → IsBelow root r =
      λ r e. ⊎_elim (λ (new : (r ≡ q) × (n ≡ m)). subst (IsBelow root) (sym new.0) (below new.1)) (λ (old : (r ≢ q) × (r ≢ p) × (place_at s r ≡ Some (File n))). kept.inside r old.2) (renamed_files s other p q m is r n e) in
      ⊎_elim
      (λ (e : n ≡ m). record {
        node = frozen_node kept.node;
        is = ap (node_at (after s (other, Rename p q))) e ∙ renamed_node s other p q m kept.node is (ap (node_at s) (sym e) ∙ kept.is);
        frozen = refl;
        same = kept.same;
        inside = names;
      })
      (λ (ne : n ≢ m). record { node = kept.node; is = renamed_nodes s other p q m n is ne ∙ kept.is; frozen = kept.frozen; same = kept.same; inside = names })
      (same_number n m)

  pub stays_kept : (m : Move) → Allowed s m → IsProper root other s m → IsKept root n bytes (after s (other, m))
  unfolding IsProperInside IsProperOutside
  stays_kept (MakeDir p) may proper = record { node = kept.node; is = kept.is; frozen = kept.frozen; same = kept.same; inside = λ q e. kept.inside q (made_files s other p q n e) }
  stays_kept (Create p m) may proper = create p m may.2
  stays_kept (Append m more) may (inl own) = append m more (not_open m own)
  stays_kept (Append m more) may (inr (inl named)) = append m more (λ e. named.1.0 (kept.inside named.0 (renumber _ m n (sym e) named.2)))
  stays_kept (Append m more) may (inr (inr own)) = append m more (not_open m own)
  stays_kept (Rename p q) may (inl row) = let file = file_of (place_at s p) may.1 in rename p q file.0 file.1 (λ e. final_below root row.0 q row.2)
  stays_kept (Rename p q) may (inr out) = let file = file_of (place_at s p) may.1 in rename p q file.0 file.1 (λ e. absurd (out.0.0 (kept.inside p (renumber _ file.0 n (sym e) file.1))))
  stays_kept (Remove p) may proper = record { node = kept.node; is = kept.is; frozen = kept.frozen; same = kept.same; inside = λ q e. kept.inside q (removed_places s other p q (File n) e).1 }
  stays_kept (RemoveDir p) may proper = record { node = kept.node; is = kept.is; frozen = kept.frozen; same = kept.same; inside = λ q e. kept.inside q (unmade_places s other p q (File n) e).1 }

-- whoever makes it
pub kept_carried : (root : PathView) (n : ℕ) (bytes : List ℕ) → IsCarried (IsProper root) (IsKept root n bytes)
kept_carried root n bytes t s m may proper kept = stays_kept root n bytes t s kept m may proper

-- the node that a final name names, in a tidy state
pub kept_at : (root : PathView) (x : Final) (last : PathView) (n : ℕ) (s : State) → IsTidy root s → IsFinal root x last → place_at s last ≡ Some (File n) → (bytes : List ℕ) × IsKept root n bytes s × IsWhole x bytes
kept_at root x last n s tidy final named =
    let found = node_of s tidy.state last n named in
    let has = tidy.finals x last final n found.0 named found.1 in
    (found.0.bytes, record { node = found.0; is = found.1; frozen = has.0; same = refl; inside = λ p e. subst (IsBelow root) (tidy.one_name last p n named e) (final_below root x last final) }, has.1)
