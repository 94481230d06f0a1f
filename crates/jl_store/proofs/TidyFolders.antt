-- Which folders stand above what stands in a state.
use Rattle.std.proofs.Common.{◌≡◌, ℕ, List, [], ◌∷◌, ◌++◌, true, false, not, Some, IsSome, is_some, true≢false, refl, sym, ap, subst, ◌∙◌, append_assoc, append-nil}
use Rattle.std.proofs.lemmas.Bool.{and_parts}
use Rattle.jl_text.specs.Paths.{PathView, is_fixed, parent}
use Rattle.jl_folder.specs.declared.moves.Place.TheVariants.{Folder}
use Rattle.jl_folder.specs.State.{State, IsState, place_at, is_folder}
use Rattle.jl_clear.proofs.Paths.{parent_in}
use Rattle.jl_store.specs.Doing.{IsPrefix}
use Rattle.jl_store.proofs.LoneMoves.{folder_at, folder_there}
use Rattle.jl_store.proofs.NamePlaces.{free_of_two}

-- a longer path is fixed only right below the current folder
fixed_below : (p : PathView) (x : List ℕ) → is_fixed (p ++ x ∷ []) ≡ true → p ≡ []
fixed_below [] x e = refl
fixed_below (q ∷ []) x e = absurd (true≢false (sym e ∙ free_of_two [] q x []))
fixed_below (q ∷ r ∷ rs) x e = absurd (true≢false (sym e ∙ free_of_two [] q r (rs ++ x ∷ [])))

-- what stands right in a folder
one_up : (s : State) → IsState s → (p : PathView) (x : List ℕ) → IsSome (place_at s (p ++ x ∷ [])) → place_at s p ≡ Some Folder
one_up s ok p x some =
    elim (is_fixed (p ++ x ∷ [])) as (λ b. is_fixed (p ++ x ∷ []) ≡ b → place_at s p ≡ Some Folder) [
      | true ↦ λ e. ap (place_at s) (fixed_below p x e) ∙ ok.here
      | false ↦ λ e.
          let has = and_parts (not (is_fixed (p ++ x ∷ []))) (is_folder s (parent (p ++ x ∷ []))) (ok.parents (p ++ x ∷ []) e some) in
          ap (place_at s) (sym (parent_in p x)) ∙ folder_at s (parent (p ++ x ∷ [])) has.1
    ] refl

-- what stands below a path stands in a folder
pub stands_below : (s : State) → IsState s → (p : PathView) (x : List ℕ) (xs : PathView) → IsSome (place_at s (p ++ x ∷ xs)) → place_at s p ≡ Some Folder
stands_below s ok p x [] some = one_up s ok p x some
stands_below s ok p x (y ∷ ys) some =
    one_up s ok p x (ap is_some (stands_below s ok (p ++ x ∷ []) y ys (subst (λ (q : PathView). IsSome (place_at s q)) (sym (append_assoc p (x ∷ []) (y ∷ ys))) some)))

-- above a folder are folders
pub prefix_folder : (s : State) → IsState s → (path p : PathView) → IsPrefix p path → place_at s path ≡ Some Folder → is_folder s p ≡ true
prefix_folder s ok path p front e = by_rest front.0 front.1
  where
    by_rest : (rest : PathView) → path ≡ p ++ rest → is_folder s p ≡ true
    by_rest [] is = folder_there s p (ap (place_at s) (sym (is ∙ append-nil p)) ∙ e)
    by_rest (x ∷ xs) is = folder_there s p (stands_below s ok p x xs (ap is_some (ap (place_at s) (sym is) ∙ e)))
