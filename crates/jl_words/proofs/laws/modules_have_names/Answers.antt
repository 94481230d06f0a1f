use Rattle.jl_words.proofs.Settled.{all_named}
use Rattle.jl_words.proofs.laws.modules_have_names.Goals as goal

pub returns : goal.returns
returns c = λ words cpus s path e f. all_named words cpus s e path f
