use Rattle.jl_module.proofs.DefinesLemmas.{code_defines}
use Rattle.jl_module.proofs.laws.a_code_defines_its_name.Goals as goal

pub returns : goal.returns
returns c = code_defines
