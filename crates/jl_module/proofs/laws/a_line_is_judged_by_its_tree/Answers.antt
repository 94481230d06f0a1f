use Rattle.jl_module.proofs.BodyLemmas.{line_judged}
use Rattle.jl_module.proofs.laws.a_line_is_judged_by_its_tree.Goals as goal

pub returns : goal.returns
returns c = λ h e w. line_judged h e w.formed w.words
