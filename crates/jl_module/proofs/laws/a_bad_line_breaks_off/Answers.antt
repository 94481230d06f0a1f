use Rattle.jl_module.proofs.RefusalLemmas.{bad_line}
use Rattle.jl_module.proofs.laws.a_bad_line_breaks_off.Goals as goal

pub returns : goal.returns
returns c = λ line h. bad_line line h
