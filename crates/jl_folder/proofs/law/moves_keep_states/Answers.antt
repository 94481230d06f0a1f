use Rattle.jl_folder.proofs.StateKept.{IsState-after, IsState-run}
use Rattle.jl_folder.proofs.law.moves_keep_states.Goals as goal

pub returns-clause-one : goal.returns-clause-one
returns-clause-one c = IsState-after

pub returns-clause-all : goal.returns-clause-all
returns-clause-all c = IsState-run
