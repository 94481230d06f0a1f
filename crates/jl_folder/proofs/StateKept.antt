-- Moves that are allowed keep states states.
use Rattle.std.proofs.Common.{◌≡◌, ℕ, List, [], ◌∷◌, Bool, true, false, cond, not, ◌&&◌, Option, None, Some, IsSome, is_some, sym, ◌∙◌, ap, subst, refl, true≢false}
use Rattle.std.specs.Option.{option_map_or}
use Rattle.jl_folder.specs.declared.moves.Place.{Place}
use Rattle.jl_folder.specs.declared.moves.Place.TheVariants.{Folder, File}
use Rattle.jl_folder.specs.declared.moves.Move.{Move}
use Rattle.jl_folder.specs.declared.moves.Move.TheVariants.{MakeDir, Create, Append, Rename, Remove, RemoveDir}
use Rattle.jl_text.specs.Paths.{PathView, path_eq, is_fixed, parent}
use Rattle.jl_folder.specs.State.{State, Trace, Allowed, IsTrace, IsState, place_at, is_folder, is_file, is_folder_place, is_file_place, has_parent, run, after}
use Rattle.jl_folder.specs.Looks.{place_after, place_renamed}
use Rattle.jl_folder.proofs.Looks.{place_at-after}
use Rattle.jl_folder.proofs.PathLemmas.{path_eq-Decides}
use Rattle.jl_folder.proofs.NodesKept.{names-kept}

folder_is : (o : Option Place) → option_map_or is_folder_place o false ≡ true → o ≡ Some Folder
folder_is None e = cc
folder_is (Some x) e = elim x as (λ y. is_folder_place y ≡ true → Some y ≡ Some Folder) [ Folder ↦ λ _. refl | File n ↦ λ h. cc ] e

and_right : (a b : Bool) → (a && b) ≡ true → b ≡ true
and_right true b e = e
and_right false b e = cc

parent_is : (s : State) (q : PathView) → has_parent s q ≡ true → place_at s (parent q) ≡ Some Folder
parent_is s q h = folder_is (place_at s (parent q)) (and_right (not (is_fixed q)) (is_folder s (parent q)) h)

-- the move doesn't remove this folder
abbrev NotRemoved : Move → PathView → Type 0
NotRemoved (MakeDir p) q = Unit {0}
NotRemoved (Create p n) q = Unit {0}
NotRemoved (Append n bytes) q = Unit {0}
NotRemoved (Rename p p') q = Unit {0}
NotRemoved (Remove p) q = Unit {0}
NotRemoved (RemoveDir p) q = path_eq q p ≡ false

no_file_folder : (s : State) (p : PathView) → is_file s p ≡ true → place_at s p ≡ Some Folder → ⊥
no_file_folder s p file folder = true≢false (sym file ∙ ap (λ o. option_map_or is_file_place o false) folder)

folder-stays : (s : State) (t : List ℕ) (m : Move) (q : PathView) → Allowed s m → place_at s q ≡ Some Folder → NotRemoved m q → place_after s (t, m) q ≡ Some Folder
folder-stays s t (MakeDir p) q a h stays = elim (path_eq q p) as (λ b. cond b (Some Folder) (place_at s q) ≡ Some Folder) [ true ↦ refl | false ↦ h ]
folder-stays s t (Create p n) q a h stays = elim (path_eq q p) as (λ b. path_eq q p ≡ b → cond b (Some (File n)) (place_at s q) ≡ Some Folder) [
  | true ↦ λ e. let none : place_at s q ≡ None = ap (place_at s) ((path_eq-Decides q p).0 e) ∙ a.0 in absurd (true≢false (sym (ap is_some h) ∙ ap is_some none))
  | false ↦ λ _. h
] refl
folder-stays s t (Append n bytes) q a h stays = h
folder-stays s t (Rename p p') q a h stays =
    elim (place_at s p) as (λ x. place_at s p ≡ x → place_renamed x p p' q (place_at s q) ≡ Some Folder) [
      | None ↦ λ e. h
      | Some x ↦ elim x as (λ y. place_at s p ≡ Some y → place_renamed (Some y) p p' q (place_at s q) ≡ Some Folder) [
        | Folder ↦ λ e. h
        | File n ↦ λ e. elim (path_eq q p') as (λ b. path_eq q p' ≡ b → cond b (Some (File n)) (cond (path_eq q p) None (place_at s q)) ≡ Some Folder) [
          | true ↦ λ is. absurd (true≢false (sym (ap (λ o. option_map_or is_folder_place o false) (ap (place_at s) (sym ((path_eq-Decides q p').0 is)) ∙ h)) ∙ a.3))
          | false ↦ λ _. elim (path_eq q p) as (λ b. path_eq q p ≡ b → cond b None (place_at s q) ≡ Some Folder) [
            | true ↦ λ is. absurd (no_file_folder s p a.1 (ap (place_at s) (sym ((path_eq-Decides q p).0 is)) ∙ h))
            | false ↦ λ _. h
          ] refl
        ] refl
      ]
    ] refl
folder-stays s t (Remove p) q a h stays = elim (path_eq q p) as (λ b. path_eq q p ≡ b → cond b None (place_at s q) ≡ Some Folder) [
  | true ↦ λ is. absurd (no_file_folder s p a (ap (place_at s) (sym ((path_eq-Decides q p).0 is)) ∙ h))
  | false ↦ λ _. h
] refl
folder-stays s t (RemoveDir p) q a h stays = ap (λ b. cond b None (place_at s q)) stays ∙ h

-- what stands after a move has a folder as its parent before it, which stays
parent_before : (s : State) (t : List ℕ) (m : Move) (q : PathView) → IsState s → Allowed s m → is_fixed q ≡ false → IsSome (place_after s (t, m) q) → (place_at s (parent q) ≡ Some Folder) × NotRemoved m (parent q)
parent_before s t (MakeDir p) q st a free some = elim (path_eq q p) as (λ b. path_eq q p ≡ b → IsSome (cond b (Some Folder) (place_at s q)) → (place_at s (parent q) ≡ Some Folder) × Unit {0}) [
  | true ↦ λ is h. (parent_is s q (ap (has_parent s) ((path_eq-Decides q p).0 is) ∙ a.1), tt)
  | false ↦ λ is h. (parent_is s q (st.parents q free h), tt)
] refl some
parent_before s t (Create p n) q st a free some = elim (path_eq q p) as (λ b. path_eq q p ≡ b → IsSome (cond b (Some (File n)) (place_at s q)) → (place_at s (parent q) ≡ Some Folder) × Unit {0}) [
  | true ↦ λ is h. (parent_is s q (ap (has_parent s) ((path_eq-Decides q p).0 is) ∙ a.1), tt)
  | false ↦ λ is h. (parent_is s q (st.parents q free h), tt)
] refl some
parent_before s t (Append n bytes) q st a free some = (parent_is s q (st.parents q free some), tt)
parent_before s t (Rename p p') q st a free some =
    elim (place_at s p) as (λ x. IsSome (place_renamed x p p' q (place_at s q)) → (place_at s (parent q) ≡ Some Folder) × Unit {0}) [
      | None ↦ λ h. (parent_is s q (st.parents q free h), tt)
      | Some x ↦ elim x as (λ y. IsSome (place_renamed (Some y) p p' q (place_at s q)) → (place_at s (parent q) ≡ Some Folder) × Unit {0}) [
        | Folder ↦ λ h. (parent_is s q (st.parents q free h), tt)
        | File n ↦ elim (path_eq q p') as (λ b. path_eq q p' ≡ b → IsSome (cond b (Some (File n)) (cond (path_eq q p) None (place_at s q))) → (place_at s (parent q) ≡ Some Folder) × Unit {0}) [
          | true ↦ λ is h. (parent_is s q (ap (has_parent s) ((path_eq-Decides q p').0 is) ∙ a.2), tt)
          | false ↦ λ _. elim (path_eq q p) as (λ b. IsSome (cond b None (place_at s q)) → (place_at s (parent q) ≡ Some Folder) × Unit {0}) [
            | true ↦ λ h. absurd (true≢false (sym h))
            | false ↦ λ h. (parent_is s q (st.parents q free h), tt)
          ]
        ] refl
      ]
    ] some
parent_before s t (Remove p) q st a free some = elim (path_eq q p) as (λ b. IsSome (cond b None (place_at s q)) → (place_at s (parent q) ≡ Some Folder) × Unit {0}) [
  | true ↦ λ h. absurd (true≢false (sym h))
  | false ↦ λ h. (parent_is s q (st.parents q free h), tt)
] some
parent_before s t (RemoveDir p) q st a free some = elim (path_eq q p) as (λ b. IsSome (cond b None (place_at s q)) → (place_at s (parent q) ≡ Some Folder) × (path_eq (parent q) p ≡ false)) [
  | true ↦ λ h. absurd (true≢false (sym h))
  | false ↦ λ h. (
    parent_is s q (st.parents q free h),
    elim (path_eq (parent q) p) as (λ b. path_eq (parent q) p ≡ b → b ≡ false) [
      | true ↦ λ is. absurd (true≢false (sym h ∙ ap is_some (a.2 q free ((path_eq-Decides (parent q) p).0 is))))
      | false ↦ λ _. refl
    ] refl,
  )
] some

fixed_stays : (m : Move) (s : State) (q : PathView) → Allowed s m → is_fixed q ≡ true → NotRemoved m q
fixed_stays (MakeDir p) s q a fixed = tt
fixed_stays (Create p n) s q a fixed = tt
fixed_stays (Append n bytes) s q a fixed = tt
fixed_stays (Rename p p') s q a fixed = tt
fixed_stays (Remove p) s q a fixed = tt
fixed_stays (RemoveDir p) s q a fixed = elim (path_eq q p) as (λ b. path_eq q p ≡ b → b ≡ false) [
  | true ↦ λ is. absurd (true≢false (sym fixed ∙ ap is_fixed ((path_eq-Decides q p).0 is) ∙ a.1))
  | false ↦ λ _. refl
] refl

pub IsState-after : (s : State) (t : List ℕ) (m : Move) → IsState s → Allowed s m → IsState (after s (t, m))
IsState-after s t m st a = record {
  here = place_at-after s (t, m) [] ∙ folder-stays s t m [] a st.here (fixed_stays m s [] a refl);
  top = place_at-after s (t, m) ([] ∷ []) ∙ folder-stays s t m ([] ∷ []) a st.top (fixed_stays m s ([] ∷ []) a refl);
  parents = λ q free some.
      let before = parent_before s t m q st a free (subst IsSome (place_at-after s (t, m) q) some) in
      let folder : place_at (after s (t, m)) (parent q) ≡ Some Folder = place_at-after s (t, m) (parent q) ∙ folder-stays s t m (parent q) a before.0 before.1 in
      ap (λ b. not b && is_folder (after s (t, m)) (parent q)) free ∙ ap (λ o. option_map_or is_folder_place o false) folder;
  nodes = names-kept s (t, m) st.nodes;
}

pub IsState-run : (s : State) (es : Trace) → IsState s → IsTrace s es → IsState (run s es)
IsState-run s [] st tr = st
IsState-run s (e ∷ es) st tr = IsState-run (after s e) es (IsState-after s e.0 e.1 st tr.0) tr.1
