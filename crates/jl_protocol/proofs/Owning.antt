-- What survives the others' proper steps: the own unfrozen node keeps its bytes, and the own temporary name is absent or names it.
use Rattle.std.proofs.Common.{◌≡◌, ◌≢◌, ◌⊎◌, inl, inr, ⊎_elim, ℕ, false, List, [], ◌++◌, None, Some, refl, sym, ap, subst, ◌∙◌}
use Rattle.jl_text.specs.Paths.{PathView}
use Rattle.jl_folder.specs.declared.moves.Place.TheVariants.{File}
use Rattle.jl_folder.specs.declared.moves.Node.{Node}
use Rattle.jl_folder.specs.declared.moves.Move.{Move}
use Rattle.jl_folder.specs.declared.moves.Move.TheVariants.{MakeDir, Create, Append, Rename, Remove, RemoveDir}
use Rattle.jl_folder.specs.State.{State, Allowed, IsState, place_at, node_at, after}
use Rattle.jl_entry.specs.Names.{Final, IsFinal, IsTemp, IsBelow, IsOutside}
use Rattle.jl_entry.proofs.NameFacts.{temp_one_way, final_one_way, final_not_temp, temp_below}
use Rattle.jl_rely.proofs.Effects.{created_here, created_node, created_nodes, appended_node, appended_nodes, renamed_nodes}
use Rattle.jl_rely.proofs.Composed.{IsStable}
use Rattle.jl_protocol.specs.Whole.{IsWhole, CodeAnswers, IsTruthful}
use Rattle.jl_protocol.specs.Tidy.{NodeHas}
use Rattle.jl_protocol.specs.Proper.{IsOwnOpen, IsProperInside, IsProperOutside, IsProper, RenamesTrue}
use Rattle.jl_protocol.specs.Owned.{IsOwnFile}
use Rattle.jl_protocol.proofs.Before.{one_value, some_not_none, one_file, renumber, node_of, file_of, made_files, created_files, removed_places, unmade_places, renamed_files}

module _ (root : PathView) (token : List ℕ) (x : Final) (temp : PathView) (is_temp : IsTemp root x token temp) (n : ℕ) (bytes : List ℕ) where
  module _ (other : List ℕ) (s : State) (apart : other ≢ token) (own : IsOwnFile token temp n bytes s) where
    not_at_temp : (p : PathView) → ((y : Final) × IsTemp root y other p) ⊎ IsOutside root p → p ≢ temp
    not_at_temp p (inl inside) e = apart (temp_one_way root inside.0 x other token p inside.1 (subst (IsTemp root x token) (sym e) is_temp)).1
    not_at_temp p (inr out) e = out.0 (subst (IsBelow root) (sym e) (temp_below root x token temp is_temp))

    create : (p : PathView) (m : ℕ) → node_at s m ≡ None → p ≢ temp → IsOwnFile token temp n bytes (after s (other, Create p m))
    create p m fresh ne =
        let differs : n ≢ m = λ e. some_not_none _ _ own.node (ap (node_at s) e ∙ fresh) in
        record {
          node = created_nodes s other p m n differs ∙ own.node;
          only = λ q e. ⊎_elim (λ (new : (q ≡ p) × (n ≡ m)). absurd (differs new.1)) (λ (old : (q ≢ p) × (place_at s q ≡ Some (File n))). own.only q old.1) (created_files s other p q m n e);
          there = λ k e. ⊎_elim (λ (new : (temp ≡ p) × (k ≡ m)). absurd (ne (sym new.0))) (λ (old : (temp ≢ p) × (place_at s temp ≡ Some (File k))). own.there k old.1) (created_files s other p temp m k e);
        }

    append : (m : ℕ) (more : List ℕ) → n ≢ m → IsOwnFile token temp n bytes (after s (other, Append m more))
    append m more differs = record { node = appended_nodes s other m more n differs ∙ own.node; only = own.only; there = own.there }

    not_own : (m : ℕ) → IsOwnOpen other s m → n ≢ m
    not_own m opened e = apart (sym opened.2 ∙ sym (ap (λ (v : Node). v.maker) (one_value _ _ opened.0 own.node (ap (node_at s) e ∙ opened.1))))

    rename : (p q : PathView) (m : ℕ) → place_at s p ≡ Some (File m) → p ≢ temp → q ≢ temp → IsOwnFile token temp n bytes (after s (other, Rename p q))
    rename p q m is ne_p ne_q =
        let differs : n ≢ m = λ e. ne_p (own.only p (renumber _ m n (sym e) is)) in
        record {
          node = renamed_nodes s other p q m n is differs ∙ own.node;
          only = λ r e. ⊎_elim (λ (new : (r ≡ q) × (n ≡ m)). absurd (differs new.1)) (λ (old : (r ≢ q) × (r ≢ p) × (place_at s r ≡ Some (File n))). own.only r old.2) (renamed_files s other p q m is r n e);
          there = λ k e. ⊎_elim (λ (new : (temp ≡ q) × (k ≡ m)). absurd (ne_q (sym new.0))) (λ (old : (temp ≢ q) × (temp ≢ p) × (place_at s temp ≡ Some (File k))). own.there k old.2) (renamed_files s other p q m is temp k e);
        }

    final_not_at_temp : (y : Final) (q : PathView) → IsFinal root y q → q ≢ temp
    final_not_at_temp y q final e = final_not_temp root y x token q final (subst (IsTemp root x token) (sym e) is_temp)

    -- the others' proper steps
    pub stays_own : (m : Move) → Allowed s m → IsProper root other s m → IsOwnFile token temp n bytes (after s (other, m))
    unfolding IsProperInside IsProperOutside
    stays_own (MakeDir p) may proper = record {
      node = own.node;
      only = λ q e. own.only q (made_files s other p q n e);
      there = λ k e. own.there k (made_files s other p temp k e);
    }
    stays_own (Create p m) may (inl inside) = create p m may.2 (not_at_temp p (inl inside))
    stays_own (Create p m) may (inr out) = create p m may.2 (not_at_temp p (inr out))
    stays_own (Append m more) may (inl opened) = append m more (not_own m opened)
    stays_own (Append m more) may (inr (inl named)) =
        append m more (λ e. not_at_temp named.0 (inr named.1) (own.only named.0 (renumber _ m n (sym e) named.2)))
    stays_own (Append m more) may (inr (inr opened)) = append m more (not_own m opened)
    stays_own (Rename p q) may (inl inside) =
        let file = file_of (place_at s p) may.1 in
        rename p q file.0 file.1 (not_at_temp p (inl (inside.0, inside.1))) (final_not_at_temp inside.0 q inside.2)
    stays_own (Rename p q) may (inr out) =
        let file = file_of (place_at s p) may.1 in
        rename p q file.0 file.1 (not_at_temp p (inr out.0)) (not_at_temp q (inr out.1))
    stays_own (Remove p) may proper = record {
      node = own.node;
      only = λ q e. own.only q (removed_places s other p q (File n) e).1;
      there = λ k e. own.there k (removed_places s other p temp (File k) e).1;
    }
    stays_own (RemoveDir p) may proper = record {
      node = own.node;
      only = λ q e. own.only q (unmade_places s other p q (File n) e).1;
      there = λ k e. own.there k (unmade_places s other p temp (File k) e).1;
    }

  -- the same for a call's claim
  pub own_stable : IsStable (IsProper root) token (IsOwnFile token temp n bytes)
  own_stable other s m apart may proper own = stays_own other s apart own m may proper

  -- the own appends
  pub appends_own : (s : State) (more : List ℕ) → IsOwnFile token temp n bytes s → IsOwnFile token temp n (bytes ++ more) (after s (token, Append n more))
  appends_own s more own = record { node = appended_node s token n more _ own.node; only = own.only; there = own.there }

  -- the own node is what the temporary name names
  pub own_has : (s : State) (P : Node → Type 0) → IsOwnFile token temp n bytes s → P (record { bytes = bytes; maker = token; frozen = false }) → NodeHas s temp P
  own_has s P own has m v named at_m = subst P (one_value _ _ v own.node (ap (node_at s) (sym (own.there m named)) ∙ at_m)) has

  -- the own moves are proper: to create, to append, and to rename what is whole
  pub create_proper : (s : State) (m : ℕ) → IsProper root token s (Create temp m)
  unfolding IsProperInside
  create_proper s m = inl (x, is_temp)

  pub append_proper : (s : State) (more : List ℕ) → IsOwnFile token temp n bytes s → IsProper root token s (Append n more)
  unfolding IsProperInside
  append_proper s more own = inl (record { bytes = bytes; maker = token; frozen = false }, own.node, refl, refl)

  pub rename_proper : (s : State) (last : PathView) → IsFinal root x last → IsWhole x bytes → IsOwnFile token temp n bytes s → IsProper root token s (Rename temp last)
  unfolding IsProperInside
  rename_proper s last final whole own = inl (x, is_temp, final, own_has s (λ v. IsWhole x v.bytes) own whole)

  -- and a rename of true bytes is true
  pub rename_true : (answer : CodeAnswers) (s : State) (last : PathView) → IsFinal root x last → IsTruthful answer x bytes → IsOwnFile token temp n bytes s → RenamesTrue root answer s (Rename temp last)
  unfolding RenamesTrue
  rename_true answer s last final truth own y final' =
      subst (λ (z : Final). NodeHas s temp (λ v. IsTruthful answer z v.bytes)) (final_one_way root x y last final final') (own_has s (λ v. IsTruthful answer x v.bytes) own truth)

-- the own create
pub creates_own : (token : List ℕ) (temp : PathView) (n : ℕ) (s : State) → IsState s → node_at s n ≡ None → IsOwnFile token temp n [] (after s (token, Create temp n))
creates_own token temp n s ok fresh = record {
  node = created_node s token temp n;
  only = λ q e.
      ⊎_elim
      (λ (new : (q ≡ temp) × (n ≡ n)). new.0)
      (λ (old : (q ≢ temp) × (place_at s q ≡ Some (File n))). let was = node_of s ok q n old.1 in absurd (some_not_none _ _ was.1 fresh))
      (created_files s token temp q n n e);
  there = λ k e. one_file _ k n e (created_here s token temp n);
}
