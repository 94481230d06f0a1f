use Rattle.jl_words.proofs.Targeted.{all_targets}
use Rattle.jl_words.proofs.laws.targets_have_names.Goals as goal

pub returns : goal.returns
returns c = λ words cpus s e. all_targets words cpus s e
