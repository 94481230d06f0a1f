use Rattle.jl_rely.proofs.Composed.{then_called}
use Rattle.jl_rely.proofs.laws.calls_compose.Goals as goal

pub returns : goal.returns
returns g c old mid new first second = then_called _ _ _ _ _ _ _ _ _ first second
