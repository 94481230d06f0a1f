use Rattle.jl_module.specs.ModuleLaws.{code_is_one_line}
use Rattle.jl_module.proofs.laws.a_code_is_one_line.Goals as goal

pub returns : goal.returns
returns c = code_is_one_line
