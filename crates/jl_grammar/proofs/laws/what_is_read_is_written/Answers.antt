use Rattle.jl_grammar.proofs.Soundness.{sound}
use Rattle.jl_grammar.proofs.laws.what_is_read_is_written.Goals as goal

pub returns : goal.returns
returns c = λ ws e h. let d = sound 128 ws e h in record { formed = d.0; words = d.1 }
