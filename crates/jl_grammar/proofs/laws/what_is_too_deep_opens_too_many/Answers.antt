use Rattle.jl_grammar.proofs.OpenBrackets.{deepens}
use Rattle.jl_grammar.proofs.laws.what_is_too_deep_opens_too_many.Goals as goal

pub returns : goal.returns
returns c = λ ws h. deepens ws h
