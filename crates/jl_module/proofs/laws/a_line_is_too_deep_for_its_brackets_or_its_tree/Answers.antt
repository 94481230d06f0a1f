use Rattle.jl_module.proofs.RefusalLemmas.{deep_line}
use Rattle.jl_module.proofs.laws.a_line_is_too_deep_for_its_brackets_or_its_tree.Goals as goal

pub returns : goal.returns
returns c = λ line h. deep_line line h
