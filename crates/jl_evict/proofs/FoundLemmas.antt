-- Items among others, each once.
use Rattle.std.proofs.Common.{◌≡◌, ◌≢◌, ⊎_elim, zero, suc, List, [], ◌∷◌, ◌++◌, refl, sym, arith, Contains}
use Rattle.std.proofs.lemmas.List.Elements.{Contains-append_cases}
use Rattle.jl_evict.specs.declared.item.Item.{Item}
use Rattle.jl_evict.specs.Items.{Once}

-- ---- elements

pub first_among : {X : Type 0} (x : X) (xs : List X) → Contains (x ∷ xs) x
first_among x xs = (0, omega arith, refl)

pub later_among : {X : Type 0} (x y : X) (xs : List X) → Contains xs y → Contains (x ∷ xs) y
later_among x y xs (k, lt, e) = (suc k, omega (arith, lt), e)

pub only_among : {X : Type 0} (x y : X) → Contains (x ∷ []) y → y ≡ x
only_among x y (zero, lt, e) = sym e
only_among x y (suc k, lt, e) = absurd (omega (arith, lt))

pub none_among : {X : Type 0} (x : X) → Contains {X = X} [] x → ⊥
none_among x (k, lt, e) = omega (arith, lt)

-- ---- once

pub once_append : (xs ys : List Item) → Once xs → Once ys → ((x y : Item) → Contains xs x → Contains ys y → y.path ≢ x.path) → Once (xs ++ ys)
once_append [] ys a b apart = b
once_append (x ∷ xs) ys a b apart = (
  λ y among. ⊎_elim (λ (l : Contains xs y). a.0 y l) (λ (r : Contains ys y). apart x y (first_among x xs) r) (Contains-append_cases xs ys y among),
  once_append xs ys a.1 b (λ u v in_xs in_ys. apart u v (later_among x u xs in_xs) in_ys),
)
