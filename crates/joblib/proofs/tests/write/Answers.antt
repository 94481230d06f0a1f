use Rattle.jl_folder.proofs.Opens.{IsMade-new}
use Rattle.joblib.proofs.tests.write.Goals as goal

pub append-answer-requires : goal.append-answer-requires
append-answer-requires g c = IsMade-new c.in-Made.number.0 _ _ c.in-Made.ensures.opens
