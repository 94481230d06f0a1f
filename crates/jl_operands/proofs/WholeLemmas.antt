-- Lists of whole numbers that are kept as such, as trees.
use Rattle.std.proofs.Common.{◌≡◌, ℕ, ◌+◌, ◌-◌, ◌^◌, ◌<◌, List, [], ◌∷◌, ◌++◌, length, min, refl, ap, arith}
use Rattle.std.specs.Prelude.{ℤ}
use Rattle.jl_value.specs.Tree.{Tree, whole, items_of, list_of}
use Rattle.jl_operands.specs.Steps.{items_weight, weight}
use Rattle.jl_operands.specs.Lists.{wholes}
use Rattle.jl_operands.specs.Operands.{list_of_wholes}

-- the trees of a list, there and back
pub list_there : (ts : List Tree) → list_of (items_of ts) ≡ ts
list_there [] = refl
list_there (t ∷ ts) = ap (λ us. t ∷ us) (list_there ts)

-- one number more
pub wholes_push : (zs : List ℤ) (z : ℤ) → wholes (zs ++ z ∷ []) ≡ wholes zs ++ whole z ∷ []
wholes_push [] z = refl
wholes_push (y ∷ ys) z = ap (λ ts. whole y ∷ ts) (wholes_push ys z)

-- two lists of numbers as one
pub wholes_both : (a b : List ℤ) → wholes (a ++ b) ≡ wholes a ++ wholes b
wholes_both [] b = refl
wholes_both (z ∷ zs) b = ap (λ ts. whole z ∷ ts) (wholes_both zs b)

-- what they weigh
pub wholes_weight : (zs : List ℤ) → items_weight (items_of (wholes zs)) ≡ length zs
wholes_weight [] = refl
wholes_weight (z ∷ zs) = let rest = wholes_weight zs in omega arith

pub wholes_weight_low : (zs : List ℤ) → length zs < 2 ^ 64 → length zs ≡ min (items_weight (items_of (wholes zs))) (2 ^ 64 - 1)
wholes_weight_low zs low = let same = wholes_weight zs in omega arith

pub list_weight_of : (zs : List ℤ) (n : ℕ) → n ≡ min (1 + length zs) (2 ^ 64 - 1) → n ≡ min (weight (list_of_wholes zs)) (2 ^ 64 - 1)
list_weight_of zs n e = let same = wholes_weight zs in omega arith
