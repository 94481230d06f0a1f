use Rattle.jl_grammar.proofs.Deepness.{not_broken}
use Rattle.jl_grammar.proofs.laws.what_is_written_is_not_broken.Goals as goal

pub returns : goal.returns
returns c = λ ws e w. not_broken ws e w.formed w.words
