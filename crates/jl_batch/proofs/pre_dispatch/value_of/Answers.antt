use Rattle.jl_batch.proofs.TextLemmas.{worth_cases, worth_only}
use Rattle.jl_batch.proofs.pre_dispatch.value_of.Goals as goal

pub returns-clause-some : goal.returns-clause-some
returns-clause-some c = worth_cases c.args.text.now c.args.jobs c.run_text.result c.run_text.ensures.some c.run_text.ensures.only

pub returns-clause-only : goal.returns-clause-only
returns-clause-only c = λ v h. worth_only c.args.text.now c.args.jobs v c.run_text.result c.run_text.ensures.only h
