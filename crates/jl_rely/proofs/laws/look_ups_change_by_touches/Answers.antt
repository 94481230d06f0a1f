use Rattle.jl_rely.proofs.Touched.{step_or_touch, foreign_or_touched}
use Rattle.jl_rely.proofs.laws.look_ups_change_by_touches.Goals as goal

pub returns-clause-one : goal.returns-clause-one
returns-clause-one c = step_or_touch

pub returns-clause-others : goal.returns-clause-others
returns-clause-others c token s others path foreign = foreign_or_touched token path s others foreign
