-- What names stand for.
use Rattle.std.specs.Prelude.{ℕ, List, ◌∷◌}
use Rattle.jl_value.specs.Tree.{Tree}
use Rattle.jl_value.specs.Form.{tree_of}
use Rattle.jl_lang.specs.declared.scope.Scope.{Scope, Arguments, Variable'}

-- the variables, from the innermost on, and the arguments
abbrev pub scope_of : Scope → List (List ℕ × Tree)
scope_of (Arguments a) = a.now
scope_of (Variable' x v p others) = (x.now, tree_of v.now) ∷ scope_of others
