-- What survives the steps of others that spare a file, and what the own steps make of it.
use Rattle.std.proofs.Common.{◌≡◌, ◌≢◌, ◌⊎◌, ◌≤◌, inl, inr, ⊎_elim, ℕ, List, length, [], ◌++◌, Bool}
use Rattle.std.proofs.Common.{true, false, cond, Option, None, Some, is_some, true≢false, refl, sym}
use Rattle.std.proofs.Common.{ap, ◌∙◌}
use Rattle.std.proofs.Common.{nat_eq}
use Rattle.std.proofs.lemmas.Bool.Decides.{Decides-eqb}
use Rattle.std.specs.Option.{option_map_or}
use Rattle.jl_text.specs.Paths.{PathView, path_eq}
use Rattle.jl_folder.specs.declared.moves.Place.{Place}
use Rattle.jl_folder.specs.declared.moves.Place.TheVariants.{Folder, File}
use Rattle.jl_folder.specs.declared.moves.Node.{Node}
use Rattle.jl_folder.specs.declared.moves.Move.{Move}
use Rattle.jl_folder.specs.declared.moves.Move.TheVariants.{MakeDir, Create, Append, Rename, Remove}
use Rattle.jl_folder.specs.declared.moves.Move.TheVariants.{RemoveDir}
use Rattle.jl_folder.specs.State.{State, Event, Allowed, IsState, place_at, node_at, is_file_place}
use Rattle.jl_folder.specs.State.{after}
use Rattle.jl_folder.specs.Looks.{place_after, place_renamed}
use Rattle.jl_folder.proofs.Looks.{place_at-after}
use Rattle.jl_folder.proofs.PathLemmas.{path_eq-Decides}
use Rattle.jl_rely.specs.Touches.{Touches}
use Rattle.jl_rely.proofs.Touched.{step_or_touch}
use Rattle.jl_rely.proofs.Effects.{created_here, created_node, created_nodes, appended_node}
use Rattle.jl_rely.proofs.Effects.{appended_nodes, renamed_nodes}
use Rattle.jl_rely.proofs.Composed.{IsStable}
use Rattle.jl_array.specs.Dumping.{IsOfDump, WritesNamed, AppendsTo, Spares, IsWritten}

-- ---- what a path names

-- a file's number
pub file_of : (o : Option Place) → option_map_or is_file_place o false ≡ true
    → (n : ℕ) × (o ≡ Some (File n))
file_of None h = absurd (true≢false (sym h))
file_of (Some x) h =
    elim x as (λ y. is_file_place y ≡ true → (n : ℕ) × (Some y ≡ Some (File n)))
    [ Folder ↦ λ f. absurd (true≢false (sym f)) | File n ↦ λ f. (n, refl) ] h

-- a path names one file
one_number : (o : Option Place) (m n : ℕ) → o ≡ Some (File m) → o ≡ Some (File n) → m ≡ n
one_number o m n e f = let h : Some (File m) ≡ Some (File n) = sym e ∙ f in cc

-- a node that is there isn't a new one
there_not_new : (o : Option Node) (v : Node) → o ≡ Some v → o ≡ None → ⊥
there_not_new o v e f = true≢false (sym (ap is_some e) ∙ ap is_some f)

-- two numbers are equal or not
pub same_number : (m n : ℕ) → (m ≡ n) ⊎ (m ≢ n)
same_number m n = elim (nat_eq m n) as (λ b. nat_eq m n ≡ b → (m ≡ n) ⊎ (m ≢ n)) [
  | true ↦ λ e. inl ((Decides-eqb m n).0 e)
  | false ↦ λ e. inr (λ same. true≢false (sym ((Decides-eqb m n).1 same) ∙ e))
] refl

-- by whether two paths are equal
by_path : (x p : PathView) (P : Bool → Type 0) → (x ≡ p → P true) → (x ≢ p → P false)
    → P (path_eq x p)
by_path x p P equal apart = elim (path_eq x p) as (λ b. path_eq x p ≡ b → P b) [
  | true ↦ λ e. equal ((path_eq-Decides x p).0 e)
  | false ↦ λ e. apart (λ same. true≢false (sym ((path_eq-Decides x p).1 same) ∙ e))
] refl

-- the step gave x the file k: it made it, or another path named it
abbrev pub Gives : State → Event → PathView → ℕ → Type 0
Gives s (t, MakeDir p) x k = ⊥
Gives s (t, Create p m) x k = (x ≡ p) × (k ≡ m)
Gives s (t, Append m bytes) x k = ⊥
Gives s (t, Rename p q) x k = place_at s p ≡ Some (File k)
Gives s (t, Remove p) x k = ⊥
Gives s (t, RemoveDir p) x k = ⊥

-- a path that names a file after a rename named it before, or took it over
renamed_from : (s : State) (t : List ℕ) (p q x : PathView) (k : ℕ) (was : Option Place)
    → place_at s p ≡ was → place_renamed was p q x (place_at s x) ≡ Some (File k)
    → (place_at s x ≡ Some (File k)) ⊎ (place_at s p ≡ Some (File k))
renamed_from s t p q x k None is e = inl e
renamed_from s t p q x k (Some place) is e =
    elim place as (λ (y : Place). place_at s p ≡ Some y
    → place_renamed (Some y) p q x (place_at s x) ≡ Some (File k) → (place_at s x ≡ Some (File k))
    ⊎ (place_at s p ≡ Some (File k))) [
      | Folder ↦ λ was h. inl h
      | File m ↦ λ was h.
          by_path x q (λ b. cond b (Some (File m)) (cond (path_eq x p) None (place_at s x))
          ≡ Some (File k) → (place_at s x ≡ Some (File k)) ⊎ (place_at s p ≡ Some (File k)))
          (λ same j. inr (was ∙ j))
          (λ apart j.
          by_path x p (λ b. cond b None (place_at s x) ≡ Some (File k)
          → (place_at s x ≡ Some (File k)) ⊎ (place_at s p ≡ Some (File k))) (λ same i. cc)
          (λ other i. inl i) j)
          h
    ] is e

-- a file that a path names after a step it named before, or the step gave it
pub named_or_given : (s : State) (e : Event) (x : PathView) (k : ℕ)
    → place_after s e x ≡ Some (File k)
    → (place_at s x ≡ Some (File k)) ⊎ Gives s e x k
named_or_given s (t, MakeDir p) x k e =
    by_path x p (λ b. cond b (Some Folder) (place_at s x) ≡ Some (File k)
    → (place_at s x ≡ Some (File k)) ⊎ ⊥) (λ same h. cc) (λ apart h. inl h) e
named_or_given s (t, Create p m) x k e =
    by_path x p (λ b. cond b (Some (File m)) (place_at s x) ≡ Some (File k)
    → (place_at s x ≡ Some (File k)) ⊎ ((x ≡ p) × (k ≡ m)))
    (λ same h. inr (same, one_number (Some (File m)) k m h refl)) (λ apart h. inl h) e
named_or_given s (t, Append m bytes) x k e = inl e
named_or_given s (t, Rename p q) x k e = renamed_from s t p q x k (place_at s p) refl e
named_or_given s (t, Remove p) x k e =
    by_path x p (λ b. cond b None (place_at s x) ≡ Some (File k) → (place_at s x ≡ Some (File k))
    ⊎ ⊥) (λ same h. cc) (λ apart h. inl h) e
named_or_given s (t, RemoveDir p) x k e =
    by_path x p (λ b. cond b None (place_at s x) ≡ Some (File k) → (place_at s x ≡ Some (File k))
    ⊎ ⊥) (λ same h. cc) (λ apart h. inl h) e

-- ---- others' steps

module _ (token : List ℕ) (path : PathView) (n : ℕ) (bytes : List ℕ) where
  module _ (other : List ℕ) (s : State) (apart : other ≢ token)
      (own : IsWritten token path n bytes s) where
    not_new : (m : ℕ) → node_at s m ≡ None → n ≢ m
    not_new m fresh e = there_not_new (node_at s n) _ own.node (ap (node_at s) e ∙ fresh)

    not_here : (p : PathView) (m : ℕ) → place_at s p ≡ Some (File m) → p ≢ path → n ≢ m
    not_here p m named ne e = ne (own.only p (named ∙ ap (λ (k : ℕ). Some (File k)) (sym e)))

    -- the step gave the file no other name
    not_given : (m : Move) → Allowed s m → (Touches m path → ⊥) → (x : PathView)
        → Gives s (other, m) x n → ⊥
    not_given (MakeDir p) may untouched x given = given
    not_given (Create p k) may untouched x given = not_new k may.2 given.1
    not_given (Append k more) may untouched x given = given
    not_given (Rename p q) may untouched x given = untouched (inl (sym (own.only p given)))
    not_given (Remove p) may untouched x given = given
    not_given (RemoveDir p) may untouched x given = given

    -- nor other bytes
    node_stays : (m : Move) → Allowed s m → (Touches m path → ⊥) → (AppendsTo path s m → ⊥)
        → node_at (after s (other, m)) n ≡ node_at s n
    unfolding AppendsTo
    node_stays (MakeDir p) may untouched unwritten = refl
    node_stays (Create p k) may untouched unwritten = created_nodes s other p k n (not_new k may.2)
    node_stays (Append k more) may untouched unwritten =
        appended_nodes s other k more n (λ (e : n ≡ k). unwritten
        (own.named ∙ ap (λ (j : ℕ). Some (File j)) e))
    node_stays (Rename p q) may untouched unwritten =
        let file = file_of (place_at s p) may.1 in
        renamed_nodes s other p q file.0 n file.1
        (not_here p file.0 file.1 (λ (e : p ≡ path). untouched (inl (sym e))))
    node_stays (Remove p) may untouched unwritten = refl
    node_stays (RemoveDir p) may untouched unwritten = refl

    pub stays_written : (m : Move) → Allowed s m → Spares path token other s m
        → IsWritten token path n bytes (after s (other, m))
    stays_written m may spares =
        let untouched = (spares apart).0 in
        record {
          named =
              ⊎_elim (λ (same : place_at (after s (other, m)) path ≡ place_at s path). same
              ∙ own.named) (λ (touch : Touches m path). absurd (untouched touch))
              (step_or_touch s (other, m) path);
          node = node_stays m may untouched (spares apart).1 ∙ own.node;
          only = λ x e.
              ⊎_elim (λ (was : place_at s x ≡ Some (File n)). own.only x was)
              (λ (given : Gives s (other, m) x n). absurd (not_given m may untouched x given))
              (named_or_given s (other, m) x n (sym (place_at-after s (other, m) x) ∙ e));
        }

  -- so a claim on a call may rest on it
  pub written_stable : IsStable (Spares path token) token (IsWritten token path n bytes)
  written_stable other s m apart may spares own = stays_written other s apart own m may spares

  -- ---- own steps

  -- an append adds to the bytes
  pub appends_written : (s : State) (more : List ℕ) → IsWritten token path n bytes s
      → IsWritten token path n (bytes ++ more) (after s (token, Append n more))
  appends_written s more own =
      record { named = own.named; node = appended_node s token n more _ own.node; only = own.only }

  -- and is to the own file that the path names
  pub append_named : (s : State) (more : List ℕ) → IsWritten token path n bytes s
      → WritesNamed path token s (Append n more)
  unfolding WritesNamed
  append_named s more own = record {
    named = own.named;
    own = record {
      view = record { bytes = bytes; maker = token; frozen = false };
      node = own.node;
      maker = refl;
      unfrozen = refl;
    };
  }

-- a file that is made is empty
pub creates_written : (token : List ℕ) (path : PathView) (n : ℕ) (s : State) → IsState s
    → node_at s n ≡ None → IsWritten token path n [] (after s (token, Create path n))
creates_written token path n s ok fresh = record {
  named = created_here s token path n;
  node = created_node s token path n;
  only = λ x e.
      ⊎_elim
      (λ (was : place_at s x ≡ Some (File n)). absurd
      (true≢false (sym (ok.nodes x n was) ∙ ap is_some fresh)))
      (λ (given : (x ≡ path) × (n ≡ n)). given.0)
      (named_or_given s (token, Create path n) x n
      (sym (place_at-after s (token, Create path n) x) ∙ e));
}

-- and has this name
pub create_named : (token : List ℕ) (path : PathView) (n : ℕ) (s : State)
    → WritesNamed path token s (Create path n)
unfolding WritesNamed
create_named token path n s = refl

-- making the file is a kind of move of a dump
pub kind_create : (path : PathView) (n : ℕ) → IsOfDump path (Create path n)
unfolding IsOfDump
kind_create path n = refl

-- so is appending a piece
pub kind_append : (path : PathView) (n : ℕ) (bytes : List ℕ) → length bytes ≤ 65536
    → IsOfDump path (Append n bytes)
unfolding IsOfDump
kind_append path n bytes short = short
