-- What a clock tells, by the moments that are left.
use Rattle.std.specs.Prelude.{ℕ, List, [], ◌∷◌}

-- the first moment, or 0 where there is none
abbrev pub moment_of : List ℕ → ℕ
moment_of [] = 0
moment_of (t ∷ ts) = t

-- the moments without the first, unless it is the last one
abbrev pub moments_after : List ℕ → List ℕ
moments_after [] = []
moments_after (t ∷ []) = t ∷ []
moments_after (t ∷ next ∷ ts) = next ∷ ts
