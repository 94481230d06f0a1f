-- A root with nothing at or below it is sound.
use Rattle.std.proofs.Common.{◌≡◌, ◌⊎◌, inl, inr, ℕ, [], ◌∷◌, ◌++◌, None, Some, cond, length, refl, sym, ap, ◌∙◌, arith, length-append}
use Rattle.jl_text.specs.Paths.{PathView, path_eq}
use Rattle.jl_folder.specs.declared.moves.Place.{Place}
use Rattle.jl_folder.specs.declared.moves.Place.TheVariants.{Folder, File}
use Rattle.jl_folder.specs.State.{State, IsState, place_at, bare_state}
use Rattle.jl_folder.proofs.Bare.{bare_place, bare_is_state}
use Rattle.jl_entry.specs.Names.{IsStoreFolder, IsBelow, IsOutside, root_of, root_part}
use Rattle.jl_entry.proofs.NameFacts.{final_below, temp_below, folder_not_outside}
use Rattle.jl_protocol.specs.Whole.{CodeAnswers}
use Rattle.jl_protocol.specs.Tidy.{IsSound}
use Rattle.jl_protocol.proofs.Before.{by_path, file_not_folder, some_not_none}

pub absent_is_sound : (root : PathView) (answer : CodeAnswers) (s : State) → IsState s
    → ((p q : PathView) (n : ℕ) → place_at s p ≡ Some (File n) → place_at s q ≡ Some (File n) → p ≡ q)
    → ((p : PathView) (n : ℕ) → place_at s p ≡ Some (File n) → IsOutside root p)
    → ((p : PathView) → place_at s p ≡ Some Folder → IsBelow root p → IsStoreFolder root p) → IsSound root answer s
absent_is_sound root answer s ok one outside folders = record {
  tidy = record {
    state = ok;
    names = λ p n e below. absurd ((outside p n e).0 below);
    folders = folders;
    no_file = λ p n e folder. folder_not_outside root p folder (outside p n e);
    finals = λ x p final n v e f. absurd ((outside p n e).0 (final_below root x p final));
    temps = λ x maker p temp n v e f. absurd ((outside p n e).0 (temp_below root x maker p temp));
    one_name = one;
  };
  truthful = λ x p final n v e f. absurd ((outside p n e).0 (final_below root x p final));
}

-- ---- the empty folder

-- all that stands in it are the two folders that are always there
two_folders : (p : PathView) (o : Place) → place_at bare_state p ≡ Some o → ((p ≡ []) ⊎ (p ≡ [] ∷ [])) × (Some o ≡ Some Folder)
two_folders p o e =
    by_path p [] (λ b. cond b (Some Folder) (cond (path_eq p ([] ∷ [])) (Some Folder) None) ≡ Some o → ((p ≡ []) ⊎ (p ≡ [] ∷ [])) × (Some o ≡ Some Folder))
    (λ is h. (inl is, sym h))
    (λ ne. by_path p ([] ∷ []) (λ b. cond b (Some Folder) None ≡ Some o → ((p ≡ []) ⊎ (p ≡ [] ∷ [])) × (Some o ≡ Some Folder)) (λ is h. (inr is, sym h)) (λ ne' h. absurd (some_not_none _ o h refl)))
    (sym (bare_place p) ∙ e)

-- neither is at or below the root of a location
not_below : (location p : PathView) → (p ≡ []) ⊎ (p ≡ [] ∷ []) → IsBelow (root_of location) p → ⊥
unfolding IsBelow root_of root_part
not_below location p (inl e) b =
    omega (arith, ap length (sym e ∙ b.1), length-append (location ++ root_part ∷ []) b.0, length-append location (root_part ∷ []))
not_below [] p (inr e) b = let h : [] ∷ [] ≡ root_part ∷ b.0 = sym e ∙ b.1 in let g : [] ≡ root_part = cc in omega (arith, ap length g)
not_below (q ∷ qs) p (inr e) b =
    omega (arith, ap length (sym e ∙ b.1), length-append ((q ∷ qs) ++ root_part ∷ []) b.0, length-append (q ∷ qs) (root_part ∷ []))

pub empty_is_sound : (location : PathView) (answer : CodeAnswers) → IsSound (root_of location) answer bare_state
empty_is_sound location answer =
    absent_is_sound (root_of location) answer bare_state bare_is_state
    (λ p q n e f. absurd (no_file p n e))
    (λ p n e. absurd (no_file p n e))
    (λ p e below. absurd (not_below location p (two_folders p Folder e).0 below))
  where
    no_file : (p : PathView) (n : ℕ) → place_at bare_state p ≡ Some (File n) → ⊥
    no_file p n e = file_not_folder (Some (File n)) n refl (two_folders p (File n) e).1
