-- What stands at and below a path.
use Rattle.std.proofs.Common.{◌≡◌, ◌⊎◌, inl, inr, ℕ, suc, ◌+◌, ◌-◌, ◌≤◌, List, [], ◌∷◌, ◌++◌, Bool, true, false, not, ◌&&◌, Option, None, Some, is_some, IsSome, true≢false, refl, sym, ap, subst, ◌∙◌, arith, length, take, drop, append_assoc, length-append, length-drop, nat_eq}
use Rattle.std.proofs.Math.Seq.{take-append_seam}
use Rattle.std.proofs.lemmas.List.{append-nil, take-append-drop}
use Rattle.std.specs.Option.{option_map_or}
use Rattle.jl_text.specs.Paths.{PathView, is_fixed, parent}
use Rattle.jl_folder.specs.declared.moves.Place.{Place}
use Rattle.jl_folder.specs.State.{State, IsState, place_at, is_folder, is_folder_place, is_file, is_file_place}
use Rattle.jl_entry.specs.Names.{IsBelow, IsKeyName}
use Rattle.jl_rely.proofs.Effects.{number_apart}
use Rattle.jl_clear.specs.Taking.{IsInside}
use Rattle.jl_clear.specs.Clearing.{Reached, IsOfEntries, IsBehind}

-- ---- paths

pub below_self : (p : PathView) → IsBelow p p
unfolding IsBelow
below_self p = ([], sym (append-nil p))

pub below_more : (p : PathView) (parts : PathView) (q : PathView) → IsBelow (p ++ parts) q → IsBelow p q
unfolding IsBelow
below_more p parts q (rest, e) = (parts ++ rest, e ∙ append_assoc p parts rest)

pub inside_below : (p q : PathView) → IsInside p q → IsBelow p q
unfolding IsBelow
inside_below p q (part, rest, e) = (part ∷ rest, e)

-- below a child is inside
pub below_inside : (p : PathView) (part : List ℕ) (q : PathView) → IsBelow (p ++ part ∷ []) q → IsInside p q
unfolding IsBelow
below_inside p part q (rest, e) = (part, rest, e ∙ append_assoc p (part ∷ []) rest)

pub inside_child : (p : PathView) (part : List ℕ) (rest q : PathView) → q ≡ p ++ part ∷ rest → IsBelow (p ++ part ∷ []) q
unfolding IsBelow
inside_child p part rest q e = (rest, e ∙ sym (append_assoc p (part ∷ []) rest))

-- what stands in a folder at names of a form
module _ (Form : List ℕ → Type 0) (folder p : PathView) where
  pub reached_below : Reached Form folder p → IsBelow folder p
  reached_below (part, (form, is)) = below_more folder (part ∷ []) p is

  pub reached_inside : Reached Form folder p → IsInside folder p
  reached_inside (part, (form, is)) = below_inside folder part p is

  -- is behind one of them
  pub reached_behind : Reached Form folder p → IsBehind Form folder p
  unfolding IsBelow
  reached_behind (part, (form, (rest, e))) = (part, rest, form, e ∙ append_assoc folder (part ∷ []) rest)

  -- and the other way round
  pub behind_reached : IsBehind Form folder p → Reached Form folder p
  behind_reached (part, rest, form, e) = (part, (form, inside_child folder part rest p e))

-- what is of a function's entries stands in its folder
pub entries_below : (function p : PathView) → IsOfEntries function p → IsBelow function p
entries_below function p of = reached_below IsKeyName function p of

pub below_then : (p q r : PathView) → IsBelow p q → IsBelow q r → IsBelow p r
unfolding IsBelow
below_then p q r (parts, e) (rest, f) = (parts ++ rest, f ∙ ap (λ (w : PathView). w ++ rest) e ∙ append_assoc p parts rest)

-- at the path, or inside
pub here_or_inside : (p q : PathView) → IsBelow p q → (q ≡ p) ⊎ IsInside p q
unfolding IsBelow
here_or_inside p q ([], e) = inl (e ∙ append-nil p)
here_or_inside p q (part ∷ rest, e) = inr (part, rest, e)

-- the parent of what stands in a folder
pub parent_in : (folder : PathView) (part : List ℕ) → parent (folder ++ part ∷ []) ≡ folder
parent_in folder part =
    let long : length (folder ++ part ∷ []) - 1 ≡ length folder = omega (arith, length-append folder (part ∷ [])) in
    ap (λ n. take n (folder ++ part ∷ [])) long ∙ take-append_seam folder (part ∷ [])

-- what stands behind one part or more has a parent
pub free_child : (p : PathView) (part : List ℕ) → 1 ≤ length p → is_fixed (p ++ part ∷ []) ≡ false
free_child [] part long = absurd (omega (arith, long))
free_child (r ∷ rs) part long =
    let behind : length (rs ++ part ∷ []) ≡ suc (length rs) = omega (arith, length-append rs (part ∷ [])) in
    ap (λ n. nat_eq (length r + n) 0) behind ∙ number_apart (length r + suc (length rs)) 0 (λ e. omega (arith, e))

-- and so does what stands behind a part that isn't empty
pub free_named : (root : PathView) (m : List ℕ) (rest : PathView) → 1 ≤ length m → is_fixed (root ++ m ∷ rest) ≡ false
free_named [] m rest long = number_apart (length m + length rest) 0 (λ e. omega (arith, e, long))
free_named (r ∷ rs) m rest long =
    let behind : length (rs ++ m ∷ rest) ≡ suc (length rs + length rest) = omega (arith, length-append rs (m ∷ rest)) in
    ap (λ n. nat_eq (length r + n) 0) behind ∙ number_apart (length r + suc (length rs + length rest)) 0 (λ e. omega (arith, e))

one_part : (xs : PathView) → length xs ≡ 1 → (part : List ℕ) × (xs ≡ part ∷ [])
one_part [] e = absurd (omega (arith, e))
one_part (x ∷ []) e = (x, refl)
one_part (x ∷ y ∷ ys) e = absurd (omega (arith, e))

-- a path with a parent is that and its last part
pub last_of : (q : PathView) → is_fixed q ≡ false → (part : List ℕ) × (q ≡ parent q ++ part ∷ [])
last_of [] free = absurd (true≢false free)
last_of (r ∷ rs) free =
    split (r ∷ rs) (one_part (drop (length (r ∷ rs) - 1) (r ∷ rs)) (omega (arith, length-drop (length (r ∷ rs) - 1) (r ∷ rs))))
  where
    split : (q : PathView) → ((part : List ℕ) × (drop (length q - 1) q ≡ part ∷ [])) → (part : List ℕ) × (q ≡ parent q ++ part ∷ [])
    split q last = (last.0, sym (take-append-drop (length q - 1) q) ∙ ap (λ (w : PathView). take (length q - 1) q ++ w) last.1)

-- ---- what stands there

right_of : (a b : Bool) → (not a && b) ≡ true → b ≡ true
right_of true b e = absurd (true≢false (sym e))
right_of false b e = e

pub by_place : (o : Option Place) → (P : Type 0) → (o ≡ None → P) → ((place : Place) → o ≡ Some place → P) → P
by_place None P none some = none refl
by_place (Some place) P none some = some place refl

pub no_folder : (s : State) (p : PathView) → place_at s p ≡ None → is_folder s p ≡ false
no_folder s p e = ap (λ o. option_map_or is_folder_place o false) e

pub no_file : (s : State) (p : PathView) → place_at s p ≡ None → is_file s p ≡ false
no_file s p e = ap (λ o. option_map_or is_file_place o false) e

pub is_there : (s : State) (p : PathView) (place : Place) → place_at s p ≡ Some place → IsSome (place_at s p)
is_there s p place e = ap is_some e

-- nothing stands in what is no folder
pub nothing_in : (s : State) → IsState s → (p : PathView) → 1 ≤ length p → is_folder s p ≡ false → (part : List ℕ) → place_at s (p ++ part ∷ []) ≡ None
nothing_in s ok p long unmade part =
    let q = p ++ part ∷ [] in
    by_place (place_at s q) (place_at s q ≡ None) (λ e. e)
    (λ place e.
    let home : is_folder s (parent q) ≡ true = right_of (is_fixed q) (is_folder s (parent q)) (ok.parents q (free_child p part long) (is_there s q place e)) in
    absurd (true≢false (sym home ∙ ap (is_folder s) (parent_in p part) ∙ unmade)))

pub nothing_inside : (s : State) → IsState s → (p : PathView) → 1 ≤ length p → is_folder s p ≡ false → (part : List ℕ) (rest : PathView) → place_at s (p ++ part ∷ rest) ≡ None
nothing_inside s ok p long unmade part [] = nothing_in s ok p long unmade part
nothing_inside s ok p long unmade part (x ∷ xs) =
    subst (λ (q : PathView). place_at s q ≡ None) (append_assoc p (part ∷ []) (x ∷ xs))
    (nothing_inside s ok (p ++ part ∷ []) (omega (arith, length-append p (part ∷ []))) (no_folder s (p ++ part ∷ []) (nothing_in s ok p long unmade part)) x xs)

-- where something stands inside, the first part on the way to it is there
pub child_there : (s : State) → IsState s → (p : PathView) (part : List ℕ) (rest : PathView) (place : Place) → place_at s (p ++ part ∷ rest) ≡ Some place → (child : Place) × (place_at s (p ++ part ∷ []) ≡ Some child)
child_there s ok p part [] place e = (place, e)
child_there s ok p part (x ∷ xs) place e =
    let q = p ++ part ∷ [] in
    by_place (place_at s q) ((child : Place) × (place_at s q ≡ Some child))
    (λ none.
    let gone : place_at s (q ++ x ∷ xs) ≡ None = nothing_inside s ok q (omega (arith, length-append p (part ∷ []))) (no_folder s q none) x xs in
    let there : place_at s (q ++ x ∷ xs) ≡ Some place = ap (place_at s) (append_assoc p (part ∷ []) (x ∷ xs)) ∙ e in
    absurd (true≢false (sym (ap is_some there) ∙ ap is_some gone)))
    (λ child is. (child, is))
