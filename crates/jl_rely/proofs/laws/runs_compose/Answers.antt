use Rattle.jl_rely.proofs.Traces.{all_together, carried, IsTrace-left, AllSteps-left}
use Rattle.jl_rely.proofs.laws.runs_compose.Goals as goal

pub returns-clause-every_move : goal.returns-clause-every_move
returns-clause-every_move g c s trace each = all_together _ s trace each

pub returns-clause-every_state : goal.returns-clause-every_state
returns-clause-every_state g c s before rest may each keeps inv =
    carried _ _ keeps s before (IsTrace-left s before rest may) (AllSteps-left _ s before rest (all_together _ s _ each)) inv
