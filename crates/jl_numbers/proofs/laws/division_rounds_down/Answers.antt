use Rattle.jl_numbers.proofs.Rounding.{rounds_down}
use Rattle.jl_numbers.proofs.laws.division_rounds_down.Goals as goal

pub returns : goal.returns
returns c = rounds_down
