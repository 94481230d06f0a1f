-- How signs are read, one after another.
use Rattle.std.proofs.Common.{◌≡◌, ℕ, true, false, List, [], ◌∷◌, ◌++◌, ap, ◌∙◌}
use Rattle.std.proofs.lemmas.Slice.Eq.{bytes_eq-Decides}
use Rattle.jl_lexer.specs.Words.{is_identifier}
use Rattle.jl_module.specs.Headings.{more_parameters}
use Rattle.jl_lexer.specs.Marks.{is_mark}

-- a comma and a name go on
pub parameter_on : (ps : List (List ℕ)) (ws vs us : List (List ℕ)) (s n : List ℕ) → ws ≡ s ∷ vs → vs ≡ n ∷ us → is_mark 41 s ≡ false → is_mark 44 s ≡ true → is_identifier n ≡ true → more_parameters ps ws ≡ more_parameters (ps ++ n ∷ []) us
parameter_on ps ws vs us s n e f h k i = ap (more_parameters ps) (e ∙ ap (λ v. s ∷ v) f) ∙ rw (h, k, i)

pub mark_is : (m : ℕ) (s : List ℕ) → is_mark m s ≡ true → s ≡ m ∷ []
mark_is m s h = (bytes_eq-Decides s (m ∷ [])).0 h
