-- What a path names after a move: the new thing, or what it named before.
use Rattle.std.proofs.Common.{◌≡◌, ◌≢◌, ◌⊎◌, inl, inr, ℕ, List, Bool, true, false, cond, nat_eq, Option, None, Some, is_some, IsSome, true≢false, refl, sym, ap, ◌∙◌}
use Rattle.std.proofs.lemmas.Bool.Decides.{Decides-eqb}
use Rattle.std.specs.Option.{option_map_or}
use Rattle.jl_text.specs.Paths.{PathView, path_eq}
use Rattle.jl_folder.specs.declared.moves.Place.{Place}
use Rattle.jl_folder.specs.declared.moves.Place.TheVariants.{Folder, File}
use Rattle.jl_folder.specs.declared.moves.Node.{Node}
use Rattle.jl_folder.specs.declared.moves.Move.TheVariants.{MakeDir, Create, Rename, Remove, RemoveDir}
use Rattle.jl_folder.specs.State.{State, IsState, place_at, node_at, is_file_place, after}
use Rattle.jl_folder.specs.Looks.{place_renamed}
use Rattle.jl_folder.proofs.Looks.{place_at-after}
use Rattle.jl_folder.proofs.PathLemmas.{path_eq-Decides}

-- ---- what is there is one thing

pub one_value : {A : Type 0} (o : Option A) (x y : A) → o ≡ Some x → o ≡ Some y → x ≡ y
one_value o x y e f = let h : Some x ≡ Some y = sym e ∙ f in cc

pub some_not_none : {A : Type 0} (o : Option A) (x : A) → o ≡ Some x → o ≡ None → ⊥
some_not_none o x e f = true≢false (sym (ap is_some e) ∙ ap is_some f)

pub file_not_folder : (o : Option Place) (n : ℕ) → o ≡ Some (File n) → o ≡ Some Folder → ⊥
file_not_folder o n e f = let h : Some (File n) ≡ Some Folder = sym e ∙ f in cc

pub one_file : (o : Option Place) (m n : ℕ) → o ≡ Some (File m) → o ≡ Some (File n) → m ≡ n
one_file o m n e f = let h : Some (File m) ≡ Some (File n) = sym e ∙ f in cc

-- a number in the place of an equal one
pub renumber : (o : Option Place) (m n : ℕ) → m ≡ n → o ≡ Some (File m) → o ≡ Some (File n)
renumber o m n e f = f ∙ ap (λ (k : ℕ). Some (File k)) e

-- a value that is there
pub some_of : {A : Type 0} (o : Option A) → IsSome o → (v : A) × (o ≡ Some v)
some_of None h = absurd (true≢false (sym h))
some_of (Some v) h = (v, refl)

-- a file's number
pub file_of : (o : Option Place) → option_map_or is_file_place o false ≡ true → (n : ℕ) × (o ≡ Some (File n))
file_of None h = absurd (true≢false (sym h))
file_of (Some x) h = elim x as (λ y. is_file_place y ≡ true → (n : ℕ) × (Some y ≡ Some (File n))) [ Folder ↦ λ f. absurd (true≢false (sym f)) | File n ↦ λ f. (n, refl) ] h

-- each name has its node
pub node_of : (s : State) → IsState s → (p : PathView) (n : ℕ) → place_at s p ≡ Some (File n) → (v : Node) × (node_at s n ≡ Some v)
node_of s st p n e = some_of (node_at s n) (st.nodes p n e)

-- ---- equal or not

pub same_number : (m n : ℕ) → (m ≡ n) ⊎ (m ≢ n)
same_number m n = elim (nat_eq m n) as (λ b. nat_eq m n ≡ b → (m ≡ n) ⊎ (m ≢ n)) [
  | true ↦ λ e. inl ((Decides-eqb m n).0 e)
  | false ↦ λ e. inr (λ same. true≢false (sym ((Decides-eqb m n).1 same) ∙ e))
] refl

-- by whether two paths are equal
pub by_path : (x p : PathView) (P : Bool → Type 0) → (x ≡ p → P true) → (x ≢ p → P false) → P (path_eq x p)
by_path x p P equal apart = elim (path_eq x p) as (λ b. path_eq x p ≡ b → P b) [
  | true ↦ λ e. equal ((path_eq-Decides x p).0 e)
  | false ↦ λ e. apart (λ same. true≢false (sym ((path_eq-Decides x p).1 same) ∙ e))
] refl

-- ---- the look-up after a move

module _ (s : State) (t : List ℕ) where
  pub made_files : (p x : PathView) (n : ℕ) → place_at (after s (t, MakeDir p)) x ≡ Some (File n) → place_at s x ≡ Some (File n)
  made_files p x n e =
      by_path x p (λ b. cond b (Some Folder) (place_at s x) ≡ Some (File n) → place_at s x ≡ Some (File n))
      (λ is h. absurd (file_not_folder (Some Folder) n h refl)) (λ ne h. h) (sym (place_at-after s (t, MakeDir p) x) ∙ e)

  pub made_folders : (p x : PathView) → place_at (after s (t, MakeDir p)) x ≡ Some Folder → (x ≡ p) ⊎ (place_at s x ≡ Some Folder)
  made_folders p x e =
      by_path x p (λ b. cond b (Some Folder) (place_at s x) ≡ Some Folder → (x ≡ p) ⊎ (place_at s x ≡ Some Folder))
      (λ is h. inl is) (λ ne h. inr h) (sym (place_at-after s (t, MakeDir p) x) ∙ e)

  pub created_files : (p x : PathView) (m n : ℕ) → place_at (after s (t, Create p m)) x ≡ Some (File n) → ((x ≡ p) × (n ≡ m)) ⊎ ((x ≢ p) × (place_at s x ≡ Some (File n)))
  created_files p x m n e =
      by_path x p (λ b. cond b (Some (File m)) (place_at s x) ≡ Some (File n) → ((x ≡ p) × (n ≡ m)) ⊎ ((x ≢ p) × (place_at s x ≡ Some (File n))))
      (λ is h. inl (is, one_file (Some (File m)) n m h refl)) (λ ne h. inr (ne, h)) (sym (place_at-after s (t, Create p m) x) ∙ e)

  pub created_folders : (p x : PathView) (m : ℕ) → place_at (after s (t, Create p m)) x ≡ Some Folder → place_at s x ≡ Some Folder
  created_folders p x m e =
      by_path x p (λ b. cond b (Some (File m)) (place_at s x) ≡ Some Folder → place_at s x ≡ Some Folder)
      (λ is h. absurd (file_not_folder (Some (File m)) m refl h)) (λ ne h. h) (sym (place_at-after s (t, Create p m) x) ∙ e)

  -- a name was taken away
  taken : (p x : PathView) (o : Place) → cond (path_eq x p) None (place_at s x) ≡ Some o → (x ≢ p) × (place_at s x ≡ Some o)
  taken p x o e =
      by_path x p (λ b. cond b None (place_at s x) ≡ Some o → (x ≢ p) × (place_at s x ≡ Some o))
      (λ is h. absurd (some_not_none None o h refl)) (λ ne h. (ne, h)) e

  pub removed_places : (p x : PathView) (o : Place) → place_at (after s (t, Remove p)) x ≡ Some o → (x ≢ p) × (place_at s x ≡ Some o)
  removed_places p x o e = taken p x o (sym (place_at-after s (t, Remove p) x) ∙ e)

  pub unmade_places : (p x : PathView) (o : Place) → place_at (after s (t, RemoveDir p)) x ≡ Some o → (x ≢ p) × (place_at s x ≡ Some o)
  unmade_places p x o e = taken p x o (sym (place_at-after s (t, RemoveDir p) x) ∙ e)

  renamed_is : (p q x : PathView) (m : ℕ) (o : Place) → place_at s p ≡ Some (File m) → place_at (after s (t, Rename p q)) x ≡ Some o → cond (path_eq x q) (Some (File m)) (cond (path_eq x p) None (place_at s x)) ≡ Some o
  renamed_is p q x m o is e = sym (place_at-after s (t, Rename p q) x ∙ ap (λ f. place_renamed f p q x (place_at s x)) is) ∙ e

  pub renamed_files : (p q : PathView) (m : ℕ) → place_at s p ≡ Some (File m) → (x : PathView) (n : ℕ) → place_at (after s (t, Rename p q)) x ≡ Some (File n) → ((x ≡ q) × (n ≡ m)) ⊎ ((x ≢ q) × (x ≢ p) × (place_at s x ≡ Some (File n)))
  renamed_files p q m is x n e =
      by_path x q (λ b. cond b (Some (File m)) (cond (path_eq x p) None (place_at s x)) ≡ Some (File n) → ((x ≡ q) × (n ≡ m)) ⊎ ((x ≢ q) × (x ≢ p) × (place_at s x ≡ Some (File n))))
      (λ same h. inl (same, one_file (Some (File m)) n m h refl)) (λ ne h. let was = taken p x (File n) h in inr (ne, was.0, was.1)) (renamed_is p q x m (File n) is e)

  pub renamed_folders : (p q : PathView) (m : ℕ) → place_at s p ≡ Some (File m) → (x : PathView) → place_at (after s (t, Rename p q)) x ≡ Some Folder → place_at s x ≡ Some Folder
  renamed_folders p q m is x e =
      by_path x q (λ b. cond b (Some (File m)) (cond (path_eq x p) None (place_at s x)) ≡ Some Folder → place_at s x ≡ Some Folder)
      (λ same h. absurd (file_not_folder (Some (File m)) m refl h)) (λ ne h. (taken p x Folder h).1) (renamed_is p q x m Folder is e)
