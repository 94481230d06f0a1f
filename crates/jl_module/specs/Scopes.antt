-- The names that an expression may use.
use Rattle.std.specs.Prelude.{ℕ, List, ◌++◌, map}
use denote.Bor.{Bor}

-- the variables of the lists round it, the innermost first, and then the parameters
abbrev pub names_among : List (Bor (List ℕ)) → List (List ℕ) → List (List ℕ)
names_among variables parameters = map (λ x. x.now) variables ++ parameters
