use Rattle.jl_rely.proofs.Alone.{moves_alone, waits_alone}
use Rattle.jl_rely.proofs.laws.lone_calls.Goals as goal

pub returns-clause-call : goal.returns-clause-call
returns-clause-call g c old new call lone = moves_alone _ _ _ call lone

pub returns-clause-waits : goal.returns-clause-waits
returns-clause-waits g c old new waits lone = waits_alone _ _ waits lone
