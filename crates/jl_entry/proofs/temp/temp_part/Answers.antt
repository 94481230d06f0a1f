use Rattle.std.proofs.Common.{◌∙◌, append_assoc}
use Rattle.std.proofs.lemmas.Result.{IfOk-weaker}
use Rattle.std.specs.Prelude.{codes}
use Rattle.jl_entry.specs.Names.{suffix}
use Rattle.jl_entry.proofs.temp.temp_part.Goals as goal

pub returns : goal.returns
unfolding suffix
returns c = IfOk-weaker c.three_texts.result _ _ (λ t e. e ∙ append_assoc c.args.part.now (codes ".tmp-") c.args.token.now) c.three_texts.ensures
