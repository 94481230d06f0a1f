use Rattle.jl_grammar.proofs.Completeness.{one_tree}
use Rattle.jl_grammar.proofs.laws.signs_write_one_expression.Goals as goal

pub returns : goal.returns
returns c = λ ws a b h k. one_tree ws a b h.formed k.formed h.words k.words
