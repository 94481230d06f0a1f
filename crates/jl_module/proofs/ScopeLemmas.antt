-- The names that an expression may use.
use Rattle.std.proofs.Common.{◌≡◌, ℕ, List, map}
use Rattle.std.specs.Prelude.{◌||◌}
use Rattle.std.specs.List.{list_any}
use Rattle.std.specs.Str.{bytes_eq}
use Rattle.std.proofs.lemmas.List.Folds.{list_any-append}
use denote.Bor.{Bor}
use Rattle.jl_module.specs.Scopes.{names_among}

pub known_among : (w : List ℕ) (variables : List (Bor (List ℕ))) (parameters : List (List ℕ)) → list_any (bytes_eq w) (names_among variables parameters) ≡ (list_any (bytes_eq w) (map (λ x. x.now) variables) || list_any (bytes_eq w) parameters)
known_among w variables parameters = list_any-append (bytes_eq w) (map (λ x. x.now) variables) parameters
