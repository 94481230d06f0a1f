-- A whole run.
use Rattle.jl_cmd.proofs.RunsLemmas.{runs_of}
use Rattle.jl_cmd.proofs.top.run.Goals as goal

-- the promises of a run are those of what it did
pub returns-clause-runs : goal.returns-clause-runs
returns-clause-runs g c = runs_of _ _ _ _ _ c.run_plain.ensures.ran
