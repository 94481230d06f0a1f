use Rattle.jl_lang.specs.AnswerLaws.{answers_within}
use Rattle.jl_lang.proofs.laws.answers_keep_the_limits.Goals as goal

pub returns : goal.returns
returns c = answers_within
