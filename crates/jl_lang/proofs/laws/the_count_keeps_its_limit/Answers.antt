use Rattle.jl_lang.proofs.Counts.{count_low}
use Rattle.jl_lang.proofs.laws.the_count_keeps_its_limit.Goals as goal

pub returns : goal.returns
returns c = count_low
