-- A proper move keeps a tidy state tidy, and a lawful one a sound state sound.
use Rattle.std.proofs.Common.{◌≡◌, ◌≢◌, inl, inr, ⊎_elim, ℕ, List, None, Some, refl, sym, ap, subst, ◌∙◌, true≢false}
use Rattle.jl_text.specs.Paths.{PathView}
use Rattle.jl_folder.specs.declared.moves.Place.TheVariants.{Folder, File}
use Rattle.jl_folder.specs.declared.moves.Move.{Move}
use Rattle.jl_folder.specs.declared.moves.Move.TheVariants.{MakeDir, Create, Append, Rename, Remove, RemoveDir}
use Rattle.jl_folder.specs.State.{State, Allowed, IsState, place_at, node_at, after}
use Rattle.jl_folder.proofs.StateKept.{IsState-after}
use Rattle.jl_entry.specs.Names.{Final, IsFinal, IsTemp, IsStoreFolder, IsStoreName, IsBelow, IsOutside}
use Rattle.jl_entry.proofs.NameFacts.{temp_one_way, final_one_way, final_not_temp, final_not_folder, temp_not_folder, final_below, temp_below, folder_not_outside}
use Rattle.jl_protocol.specs.Whole.{IsWhole, CodeAnswers, IsTruthful}
use Rattle.jl_protocol.specs.Tidy.{NodeHas, IsTidy, IsSound}
use Rattle.jl_protocol.specs.Proper.{IsOwnOpen, IsProperInside, IsProperOutside, IsProper, IsLawful, RenamesTrue}
use Rattle.jl_protocol.proofs.Before.{some_not_none, renumber, node_of, file_of, made_files, made_folders, created_folders, created_files, removed_places, unmade_places, renamed_folders, renamed_files}
use Rattle.jl_protocol.proofs.Named.{kept_make_dir, kept_remove_dir, kept_remove, kept_create, kept_append, kept_rename}

-- what a row says of the path of a new file, whether inside or outside the root
record CreatesWell (root : PathView) (token : List ℕ) (p : PathView) : Type 0 where
  name : IsBelow root p → IsStoreName root p
  no_folder : IsStoreFolder root p → ⊥
  no_final : (x : Final) → IsFinal root x p → ⊥
  own : (x : Final) (maker : List ℕ) → IsTemp root x maker p → token ≡ maker

-- what a row says of the path that a file is renamed to
record RenamesWell (root : PathView) (s : State) (p q : PathView) : Type 0 where
  name : IsBelow root q → IsStoreName root q
  no_folder : IsStoreFolder root q → ⊥
  no_temp : (x : Final) (maker : List ℕ) → IsTemp root x maker q → ⊥
  whole : (x : Final) → IsFinal root x q → NodeHas s p (λ v. IsWhole x v.bytes)

module _ (root : PathView) (token : List ℕ) (s : State) (tidy : IsTidy root s) where
  abbrev ok : IsState s
  ok = tidy.state

  make_dir : (p : PathView) → Allowed s (MakeDir p) → (IsBelow root p → IsStoreFolder root p) → IsTidy root (after s (token, MakeDir p))
  make_dir p may folder = record {
    state = IsState-after s token (MakeDir p) ok may;
    names = λ x n e. tidy.names x n (made_files s token p x n e);
    folders = λ x e below.
        ⊎_elim
        (λ (is : x ≡ p). subst (IsStoreFolder root) (sym is) (folder (subst (IsBelow root) is below)))
        (λ (was : place_at s x ≡ Some Folder). tidy.folders x was below)
        (made_folders s token p x e);
    no_file = λ x n e. tidy.no_file x n (made_files s token p x n e);
    finals = λ x. kept_make_dir s token ok (IsFinal root x) _ (tidy.finals x) p;
    temps = λ x maker. kept_make_dir s token ok (IsTemp root x maker) _ (tidy.temps x maker) p;
    one_name = λ x y n e f. tidy.one_name x y n (made_files s token p x n e) (made_files s token p y n f);
  }

  fresh_number : (m : ℕ) → node_at s m ≡ None → (x : PathView) (n : ℕ) → place_at s x ≡ Some (File n) → n ≢ m
  fresh_number m fresh x n e is = let was = node_of s ok x n e in some_not_none _ was.0 was.1 (ap (node_at s) is ∙ fresh)

  create : (p : PathView) (m : ℕ) → Allowed s (Create p m) → node_at s m ≡ None → CreatesWell root token p → IsTidy root (after s (token, Create p m))
  create p m may fresh well = record {
    state = IsState-after s token (Create p m) ok may;
    names = λ x n e below.
        ⊎_elim
        (λ (new : (x ≡ p) × (n ≡ m)). subst (IsStoreName root) (sym new.0) (well.name (subst (IsBelow root) new.0 below)))
        (λ (old : (x ≢ p) × (place_at s x ≡ Some (File n))). tidy.names x n old.1 below)
        (created_files s token p x m n e);
    folders = λ x e. tidy.folders x (created_folders s token p x m e);
    no_file = λ x n e is.
        ⊎_elim
        (λ (new : (x ≡ p) × (n ≡ m)). well.no_folder (subst (IsStoreFolder root) new.0 is))
        (λ (old : (x ≢ p) × (place_at s x ≡ Some (File n))). tidy.no_file x n old.1 is)
        (created_files s token p x m n e);
    finals = λ x. kept_create s token ok (IsFinal root x) _ (tidy.finals x) p m fresh (λ is. absurd (well.no_final x is));
    temps = λ x maker. kept_create s token ok (IsTemp root x maker) _ (tidy.temps x maker) p m fresh (λ is. (refl, well.own x maker is));
    one_name = λ x y n e f.
        ⊎_elim
        (λ (new : (x ≡ p) × (n ≡ m)).
        ⊎_elim
        (λ (new' : (y ≡ p) × (n ≡ m)). new.0 ∙ sym new'.0)
        (λ (old' : (y ≢ p) × (place_at s y ≡ Some (File n))). absurd (fresh_number m fresh y n old'.1 new.1))
        (created_files s token p y m n f))
        (λ (old : (x ≢ p) × (place_at s x ≡ Some (File n))).
        ⊎_elim
        (λ (new' : (y ≡ p) × (n ≡ m)). absurd (fresh_number m fresh x n old.1 new'.1))
        (λ (old' : (y ≢ p) × (place_at s y ≡ Some (File n))). tidy.one_name x y n old.1 old'.1)
        (created_files s token p y m n f))
        (created_files s token p x m n e);
  }

  -- an append to a node that no final file names
  append : (m : ℕ) (bytes : List ℕ) → Allowed s (Append m bytes) → ((x : Final) (p : PathView) → IsFinal root x p → place_at s p ≡ Some (File m) → ⊥) → IsTidy root (after s (token, Append m bytes))
  append m bytes may free = record {
    state = IsState-after s token (Append m bytes) ok may;
    names = tidy.names;
    folders = tidy.folders;
    no_file = tidy.no_file;
    finals = λ x. kept_append s token ok (IsFinal root x) _ (tidy.finals x) m bytes (λ y v is named at_m had. absurd (free x y is named));
    temps = λ x maker. kept_append s token ok (IsTemp root x maker) _ (tidy.temps x maker) m bytes (λ y v is named at_m had. had);
    one_name = tidy.one_name;
  }

  rename : (p q : PathView) (m : ℕ) → Allowed s (Rename p q) → place_at s p ≡ Some (File m) → RenamesWell root s p q → IsTidy root (after s (token, Rename p q))
  rename p q m may is well = record {
    state = IsState-after s token (Rename p q) ok may;
    names = λ x n e below.
        ⊎_elim
        (λ (new : (x ≡ q) × (n ≡ m)). subst (IsStoreName root) (sym new.0) (well.name (subst (IsBelow root) new.0 below)))
        (λ (old : (x ≢ q) × (x ≢ p) × (place_at s x ≡ Some (File n))). tidy.names x n old.2 below)
        (renamed_files s token p q m is x n e);
    folders = λ x e. tidy.folders x (renamed_folders s token p q m is x e);
    no_file = λ x n e folder.
        ⊎_elim
        (λ (new : (x ≡ q) × (n ≡ m)). well.no_folder (subst (IsStoreFolder root) new.0 folder))
        (λ (old : (x ≢ q) × (x ≢ p) × (place_at s x ≡ Some (File n))). tidy.no_file x n old.2 folder)
        (renamed_files s token p q m is x n e);
    finals = λ x. kept_rename s token ok (IsFinal root x) _ (tidy.finals x) p q m is tidy.one_name (λ v final at_m. (refl, well.whole x final m v is at_m));
    temps = λ x maker. kept_rename s token ok (IsTemp root x maker) _ (tidy.temps x maker) p q m is tidy.one_name (λ v temp at_m. absurd (well.no_temp x maker temp));
    one_name = λ x y n e f.
        ⊎_elim
        (λ (new : (x ≡ q) × (n ≡ m)).
        ⊎_elim
        (λ (new' : (y ≡ q) × (n ≡ m)). new.0 ∙ sym new'.0)
        (λ (old' : (y ≢ q) × (y ≢ p) × (place_at s y ≡ Some (File n))). absurd (old'.1 (tidy.one_name y p m (renumber _ n m new.1 old'.2) is)))
        (renamed_files s token p q m is y n f))
        (λ (old : (x ≢ q) × (x ≢ p) × (place_at s x ≡ Some (File n))).
        ⊎_elim
        (λ (new' : (y ≡ q) × (n ≡ m)). absurd (old.1 (tidy.one_name x p m (renumber _ n m new'.1 old.2) is)))
        (λ (old' : (y ≢ q) × (y ≢ p) × (place_at s y ≡ Some (File n))). tidy.one_name x y n old.2 old'.2)
        (renamed_files s token p q m is y n f))
        (renamed_files s token p q m is x n e);
  }

  remove : (p : PathView) → Allowed s (Remove p) → IsTidy root (after s (token, Remove p))
  remove p may =
      let names : (x : PathView) (n : ℕ) → place_at (after s (token, Remove p)) x ≡ Some (File n) → place_at s x ≡ Some (File n) = λ x n e. (removed_places s token p x (File n) e).1 in
      record {
        state = IsState-after s token (Remove p) ok may;
        names = λ x n e. tidy.names x n (names x n e);
        folders = λ x e. tidy.folders x (removed_places s token p x Folder e).1;
        no_file = λ x n e. tidy.no_file x n (names x n e);
        finals = λ x. kept_remove s token ok (IsFinal root x) _ (tidy.finals x) p;
        temps = λ x maker. kept_remove s token ok (IsTemp root x maker) _ (tidy.temps x maker) p;
        one_name = λ x y n e f. tidy.one_name x y n (names x n e) (names y n f);
      }

  remove_dir : (p : PathView) → Allowed s (RemoveDir p) → IsTidy root (after s (token, RemoveDir p))
  remove_dir p may =
      let names : (x : PathView) (n : ℕ) → place_at (after s (token, RemoveDir p)) x ≡ Some (File n) → place_at s x ≡ Some (File n) = λ x n e. (unmade_places s token p x (File n) e).1 in
      record {
        state = IsState-after s token (RemoveDir p) ok may;
        names = λ x n e. tidy.names x n (names x n e);
        folders = λ x e. tidy.folders x (unmade_places s token p x Folder e).1;
        no_file = λ x n e. tidy.no_file x n (names x n e);
        finals = λ x. kept_remove_dir s token ok (IsFinal root x) _ (tidy.finals x) p;
        temps = λ x maker. kept_remove_dir s token ok (IsTemp root x maker) _ (tidy.temps x maker) p;
        one_name = λ x y n e f. tidy.one_name x y n (names x n e) (names y n f);
      }

  -- ---- the rows

  creates_inside : (x : Final) (p : PathView) → IsTemp root x token p → CreatesWell root token p
  creates_inside x p temp = record {
    name = λ below. inr (x, token, temp);
    no_folder = temp_not_folder root x token p temp;
    no_final = λ y final. final_not_temp root y x token p final temp;
    own = λ y maker other. (temp_one_way root x y token maker p temp other).1;
  }

  creates_outside : (p : PathView) → IsOutside root p → CreatesWell root token p
  creates_outside p out = record {
    name = λ below. absurd (out.0 below);
    no_folder = λ folder. folder_not_outside root p folder out;
    no_final = λ y final. out.0 (final_below root y p final);
    own = λ y maker temp. absurd (out.0 (temp_below root y maker p temp));
  }

  -- no final file names a node of this run that is not frozen, nor one that a path outside the root names
  not_own_open : (m : ℕ) → IsOwnOpen token s m → (x : Final) (p : PathView) → IsFinal root x p → place_at s p ≡ Some (File m) → ⊥
  not_own_open m own x p final named = true≢false (sym (tidy.finals x p final m own.0 named own.1).0 ∙ own.3)

  not_outside : (m : ℕ) (q : PathView) → IsOutside root q → place_at s q ≡ Some (File m) → (x : Final) (p : PathView) → IsFinal root x p → place_at s p ≡ Some (File m) → ⊥
  not_outside m q out at_q x p final named = out.0 (subst (IsBelow root) (tidy.one_name p q m named at_q) (final_below root x p final))

  renames_inside : (x : Final) (p q : PathView) → IsFinal root x q → NodeHas s p (λ v. IsWhole x v.bytes) → RenamesWell root s p q
  renames_inside x p q final has = record {
    name = λ below. inl (x, final);
    no_folder = final_not_folder root x q final;
    no_temp = λ y maker temp. final_not_temp root x y maker q final temp;
    whole = λ y final'. subst (λ (z : Final). NodeHas s p (λ v. IsWhole z v.bytes)) (final_one_way root x y q final final') has;
  }

  renames_outside : (p q : PathView) → IsOutside root q → RenamesWell root s p q
  renames_outside p q out = record {
    name = λ below. absurd (out.0 below);
    no_folder = λ folder. folder_not_outside root q folder out;
    no_temp = λ y maker temp. out.0 (temp_below root y maker q temp);
    whole = λ y final. absurd (out.0 (final_below root y q final));
  }

  pub stays_tidy : (m : Move) → Allowed s m → IsProper root token s m → IsTidy root (after s (token, m))
  unfolding IsProperInside IsProperOutside
  stays_tidy (MakeDir p) may (inl row) = make_dir p may (λ below. row)
  stays_tidy (MakeDir p) may (inr out) = make_dir p may (λ below. absurd (out.0 below))
  stays_tidy (Create p n) may (inl row) = create p n may may.2 (creates_inside row.0 p row.1)
  stays_tidy (Create p n) may (inr out) = create p n may may.2 (creates_outside p out)
  stays_tidy (Append n bytes) may (inl own) = append n bytes may (not_own_open n own)
  stays_tidy (Append n bytes) may (inr (inl named)) = append n bytes may (not_outside n named.0 named.1 named.2)
  stays_tidy (Append n bytes) may (inr (inr own)) = append n bytes may (not_own_open n own)
  stays_tidy (Rename p q) may (inl row) = let file = file_of (place_at s p) may.1 in rename p q file.0 may file.1 (renames_inside row.0 p q row.2 row.3)
  stays_tidy (Rename p q) may (inr out) = let file = file_of (place_at s p) may.1 in rename p q file.0 may file.1 (renames_outside p q out.1)
  stays_tidy (Remove p) may (inl row) = remove p may
  stays_tidy (Remove p) may (inr out) = remove p may
  stays_tidy (RemoveDir p) may (inl row) = remove_dir p may
  stays_tidy (RemoveDir p) may (inr out) = remove_dir p may

  -- ---- sound states

  module _ (answer : CodeAnswers) (sound : (x : Final) (p : PathView) → IsFinal root x p → NodeHas s p (λ v. IsTruthful answer x v.bytes)) where
    abbrev Truths : State → Type 0
    Truths t = (x : Final) (p : PathView) → IsFinal root x p → NodeHas t p (λ v. IsTruthful answer x v.bytes)

    true_append : (m : ℕ) (bytes : List ℕ) → ((x : Final) (p : PathView) → IsFinal root x p → place_at s p ≡ Some (File m) → ⊥) → Truths (after s (token, Append m bytes))
    true_append m bytes free x = kept_append s token ok (IsFinal root x) _ (sound x) m bytes (λ y v is named at_m had. absurd (free x y is named))

    pub stays_true : (m : Move) → Allowed s m → IsLawful root answer token s m → Truths (after s (token, m))
    unfolding IsProperInside IsProperOutside RenamesTrue
    stays_true (MakeDir p) may lawful x = kept_make_dir s token ok (IsFinal root x) _ (sound x) p
    stays_true (Create p n) may (inl row, true_bytes) x =
        kept_create s token ok (IsFinal root x) _ (sound x) p n may.2 (λ is. absurd ((creates_inside row.0 p row.1).no_final x is))
    stays_true (Create p n) may (inr out, true_bytes) x =
        kept_create s token ok (IsFinal root x) _ (sound x) p n may.2 (λ is. absurd ((creates_outside p out).no_final x is))
    stays_true (Append n bytes) may (inl own, true_bytes) x = true_append n bytes (not_own_open n own) x
    stays_true (Append n bytes) may (inr (inl named), true_bytes) x = true_append n bytes (not_outside n named.0 named.1 named.2) x
    stays_true (Append n bytes) may (inr (inr own), true_bytes) x = true_append n bytes (not_own_open n own) x
    stays_true (Rename p q) may lawful x =
        let file = file_of (place_at s p) may.1 in
        kept_rename s token ok (IsFinal root x) _ (sound x) p q file.0 file.1 tidy.one_name (λ v final at_m. lawful.1 x final file.0 v file.1 at_m)
    stays_true (Remove p) may lawful x = kept_remove s token ok (IsFinal root x) _ (sound x) p
    stays_true (RemoveDir p) may lawful x = kept_remove_dir s token ok (IsFinal root x) _ (sound x) p

pub stays_sound : (root : PathView) (answer : CodeAnswers) (token : List ℕ) (s : State) (m : Move) → Allowed s m → IsLawful root answer token s m → IsSound root answer s → IsSound root answer (after s (token, m))
stays_sound root answer token s m may lawful sound = record {
  tidy = stays_tidy root token s sound.tidy m may lawful.0;
  truthful = stays_true root token s sound.tidy answer sound.truthful m may lawful;
}
