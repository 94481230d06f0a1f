use Rattle.std.proofs.Common.{sym, ap, ◌∙◌}
use Rattle.jl_grammar.specs.Parser.{read_signs}
use Rattle.jl_grammar.proofs.Completeness.{complete}
use Rattle.jl_grammar.proofs.laws.what_is_written_is_read.Goals as goal

pub returns : goal.returns
returns c = λ ws e h low. ap read_signs (sym h.words) ∙ complete 128 e h.formed low
