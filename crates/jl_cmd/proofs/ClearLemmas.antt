-- What the command `clear` takes away, by its words.
use Rattle.std.proofs.Common.{◌≡◌, ℕ, List, [], ◌∷◌, Option, None, Some, ap, refl, sym, subst, ◌∙◌}
use Rattle.hex.specs.Hex.{encode_lower}
use Rattle.jl_text.specs.Paths.{PathView}
use Rattle.jl_folder.specs.Views.{FolderView}
use Rattle.jl_value.specs.declared.key.Key.{Key}
use Rattle.jl_entry.specs.Names.{IsBelow, below, root_of}
use Rattle.jl_clear.specs.Cleared.{ClearsPaths}
use Rattle.jl_clear.specs.declared.removing.Clear.{Clear}
use Rattle.jl_cmd.specs.of.Clear.{IsCleared}

module _ (location : PathView) (answer : Clear) (old new : FolderView) where
  abbrev Takes : Option (List ℕ) → Option (List ℕ) → Option Key → Type 0
  Takes o p q = ClearsPaths (root_of location) (IsCleared location o p q) answer old new

  taken_as : (m m' f f' : Option (List ℕ)) (k k' : Option Key) → m ≡ m' → f ≡ f' → k ≡ k' → Takes m' f' k' → Takes m f k
  taken_as m m' f f' k k' em ef ek h =
      subst (λ (x : Option (List ℕ)). Takes x f k) (sym em) (subst (λ (x : Option (List ℕ)). Takes m' x k) (sym ef) (subst (λ (x : Option Key). Takes m' f' x) (sym ek) h))

  -- all
  pub taken_all : (o p : Option (List ℕ)) (k : Option Key) → o ≡ None → Takes None p k → Takes o p k
  taken_all o p k eo h = taken_as o None p p k k eo refl refl h

  -- a module's folder
  pub taken_module : (o p : Option (List ℕ)) (k : Option Key) (m m' : List ℕ) → o ≡ Some m → p ≡ None → m' ≡ m → ClearsPaths (root_of location) (IsBelow (below (root_of location) (m' ∷ []))) answer old new → Takes o p k
  taken_module o p k m m' eo ep em h = taken_as o (Some m') p None k k (eo ∙ ap Some (sym em)) ep refl h

  -- a function's
  pub taken_function : (o p : Option (List ℕ)) (k : Option Key) (m m' f f' : List ℕ) → o ≡ Some m → p ≡ Some f → k ≡ None → m' ≡ m → f' ≡ f → ClearsPaths (root_of location) (IsBelow (below (root_of location) (m' ∷ f' ∷ []))) answer old new → Takes o p k
  taken_function o p k m m' f f' eo ep ek em ef h = taken_as o (Some m') p (Some f') k None (eo ∙ ap Some (sym em)) (ep ∙ ap Some (sym ef)) ek h

  -- an entry's
  pub taken_entry : (o p : Option (List ℕ)) (q : Option Key) (m m' f f' : List ℕ) (k : Key) → o ≡ Some m → p ≡ Some f → q ≡ Some k → m' ≡ m → f' ≡ f → ClearsPaths (root_of location) (IsBelow (below (root_of location) (m' ∷ f' ∷ encode_lower k.0 ∷ []))) answer old new → Takes o p q
  taken_entry o p q m m' f f' k eo ep ek em ef h = taken_as o (Some m') p (Some f') q (Some k) (eo ∙ ap Some (sym em)) (ep ∙ ap Some (sym ef)) ek h
