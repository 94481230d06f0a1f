use Rattle.jl_rely.proofs.Prefixes.{throughout_before, before_throughout}
use Rattle.jl_rely.proofs.laws.throughout_is_by_prefixes.Goals as goal

pub returns : goal.returns
returns g c token s steps = (throughout_before _ _ token s steps, before_throughout _ _ token s steps)
