-- The folder with nothing in it is a state.
use Rattle.std.proofs.Common.{◌≡◌, ℕ, [], ◌∷◌, Bool, true, false, cond, Option, None, Some, IsSome, sym, ◌∙◌, ap, subst, refl, true≢false}
use Rattle.std.specs.Ordering.{eq_by_cmp}
use Rattle.std.specs.FinMap as finmap
use Rattle.jl_folder.specs.declared.moves.Place.{Place}
use Rattle.jl_folder.specs.declared.moves.Place.TheVariants.{Folder, File}
use Rattle.jl_text.specs.Paths.{PathView, path_eq, is_fixed}
use Rattle.jl_folder.specs.State.{IsState, path_cmp, place_at, bare_state}
use Rattle.jl_folder.proofs.Looks.{path_total, path_ties}
use Rattle.jl_folder.proofs.PathLemmas.{path_eq-Decides}

-- what each path names in it
pub bare_place : (q : PathView) → place_at bare_state q ≡ cond (path_eq q []) (Some Folder) (cond (path_eq q ([] ∷ [])) (Some Folder) None)
bare_place q = finmap.get-from_entries path_total (([], Folder) ∷ ([] ∷ [], Folder) ∷ []) q
    ∙ ap (λ b. cond b (Some Folder) (cond (eq_by_cmp path_cmp q ([] ∷ [])) (Some Folder) None)) (sym (path_ties q []))
    ∙ ap (λ b. cond (path_eq q []) (Some Folder) (cond b (Some Folder) None)) (sym (path_ties q ([] ∷ [])))

two_folders : (a b : Bool) (n : ℕ) → let none : Option Place = None in cond a (Some Folder) (cond b (Some Folder) none) ≡ Some (File n) → ⊥
two_folders true b n e = cc
two_folders false true n e = cc
two_folders false false n e = cc

pub bare_is_state : IsState bare_state
bare_is_state = record {
  here = bare_place [];
  top = bare_place ([] ∷ []);
  parents = λ p free some. absurd (fixed p free (subst IsSome (bare_place p) some));
  nodes = λ p n is. absurd (two_folders (path_eq p []) (path_eq p ([] ∷ [])) n (sym (bare_place p) ∙ is));
}
  where
    fixed : (p : PathView) → is_fixed p ≡ false → IsSome (cond (path_eq p []) (Some Folder) (cond (path_eq p ([] ∷ [])) (Some Folder) None)) → ⊥
    fixed p free some = elim (path_eq p []) as (λ a. path_eq p [] ≡ a → IsSome (cond a (Some Folder) (cond (path_eq p ([] ∷ [])) (Some Folder) None)) → ⊥) [
      | true ↦ λ e _. true≢false (ap is_fixed (sym ((path_eq-Decides p []).0 e)) ∙ free)
      | false ↦ λ _ s. elim (path_eq p ([] ∷ [])) as (λ b. path_eq p ([] ∷ []) ≡ b → IsSome (cond b (Some Folder) None) → ⊥) [
        | true ↦ λ e _. true≢false (ap is_fixed (sym ((path_eq-Decides p ([] ∷ [])).0 e)) ∙ free)
        | false ↦ λ _ t. true≢false (sym t)
      ] refl s
    ] refl some
