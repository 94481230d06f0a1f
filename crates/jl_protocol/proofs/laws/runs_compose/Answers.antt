use Rattle.jl_rely.proofs.Traces.{all_together, AllSteps-left, IsTrace-left}
use Rattle.jl_protocol.specs.Proper.{IsLawful}
use Rattle.jl_protocol.proofs.Kills.{sound_at_end}
use Rattle.jl_protocol.proofs.laws.runs_compose.Goals as goal

pub returns-clause-every_move : goal.returns-clause-every_move
returns-clause-every_move c root answer s moves each = all_together (IsLawful root answer) s moves each

pub returns-clause-every_state : goal.returns-clause-every_state
returns-clause-every_state c root answer s before rest may sound each =
    sound_at_end root answer s before (IsTrace-left s before rest may) (AllSteps-left (IsLawful root answer) s before rest (all_together (IsLawful root answer) s _ each)) sound
