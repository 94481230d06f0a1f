use Rattle.jl_tracker.proofs.CauseLemmas.{folder_cause}
use Rattle.jl_tracker.proofs.law.folders_stay_for_a_cause.Goals as goal

pub returns : goal.returns
returns c = folder_cause
