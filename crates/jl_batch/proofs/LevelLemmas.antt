-- Levels on a stack.
use Rattle.std.proofs.Common.{◌≡◌, ◌≢◌, ℕ, zero, suc, ◌+◌, ◌<◌, ◌≤◌, List, ◌∷◌, length, refl, ap, arith, add-one, get_or-set_other, get_or-set_same}
use Rattle.std.proofs.Math.ListN.{set}
use Rattle.jl_batch.specs.declared.parser.Level.{Level}
use Rattle.jl_batch.specs.Levels.{levels_below}

pub length-levels_below : (n : ℕ) (xs : List Level) → length (levels_below n xs) ≡ n
length-levels_below zero xs = refl
length-levels_below (suc n) xs = ap suc (length-levels_below n xs)

-- a level above does not count
levels_below-set : (n i : ℕ) (xs : List Level) (x : Level) → n ≤ i → levels_below n (set xs i x) ≡ levels_below n xs
levels_below-set zero i xs x h = refl
levels_below-set (suc n) i xs x h =
    let other : n ≢ i = omega arith in
    rw (levels_below-set n i xs x (omega arith), get_or-set_other)

pub levels_below-push : (n : ℕ) (xs : List Level) (x : Level) → n < length xs → levels_below (n + 1) (set xs n x) ≡ x ∷ levels_below n xs
levels_below-push n xs x h = rw (add-one, levels_below-set n n xs x (omega arith), get_or-set_same)

-- for `grind`
pub ruleset stack_laws = (length-levels_below, levels_below-push)
