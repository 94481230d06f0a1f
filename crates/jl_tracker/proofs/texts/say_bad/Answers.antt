use Rattle.std.proofs.Common.{subst, ◌∙◌}
use Rattle.jl_tracker.specs.Plays.{Wrote}
use Rattle.jl_tracker.specs.Stages.{sink_point}
use Rattle.jl_tracker.proofs.texts.say_bad.Goals as goal

pub returns-clause-wrote : goal.returns-clause-wrote
returns-clause-wrote g c = λ t.
    subst (λ text. Wrote text (sink_point (g.E.Sink.view c.args.err.now)) (sink_point (g.E.Sink.view c.put.new.err))) (c.as_str.ensures.value ∙ c.in_ok-text.ensures) (c.put.ensures.wrote t)
