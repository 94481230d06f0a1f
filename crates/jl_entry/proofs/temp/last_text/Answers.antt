use Rattle.std.proofs.Common.{◌≡◌, ◌⊎◌, List, ℕ, [], true, unwrap_or, Option, sym, ap, subst}
use Rattle.jl_text.specs.Paths.{is_part}
use Rattle.jl_entry.proofs.TempFacts.{last_is_part}
use Rattle.jl_entry.proofs.temp.last_text.Goals as goal

pub returns-in-Some-clause-part : goal.returns-in-Some-clause-part
returns-in-Some-clause-part c =
    subst (λ (t : List ℕ). (t ≡ []) ⊎ (is_part t ≡ true)) (ap (λ (o : Option (List ℕ)). unwrap_or o []) (sym c.in-Some.ensures)) (last_is_part c.args.path.now c.parts-all.ensures.path)
