use Rattle.jl_grammar.proofs.OpenBrackets.{breaks}
use Rattle.jl_grammar.proofs.laws.what_is_broken_breaks_off.Goals as goal

pub returns : goal.returns
returns c = λ ws h. breaks ws h
