use Rattle.jl_tracker.proofs.FailureLemmas.{plays_but}
use Rattle.jl_tracker.proofs.law.removals_fail_by_counted_faults.Goals as goal

pub returns : goal.returns
returns g c folder err effects a b plays told = plays_but _ effects a b plays told
