use Rattle.jl_tracker.specs.TrackerLines.{view_of}
use Rattle.jl_tracker.proofs.PlayLemmas.{good_ends}
use Rattle.jl_tracker.proofs.effects.take_good.Goals as goal

pub returns-clause-plays : goal.returns-clause-plays
returns-clause-plays g c = good_ends (view_of c.args.line.now) c.args.counts.now c.apply-step.new.self c.apply-step.result c.finish_line.result _ _ c.apply-step.ensures c.finish_line.ensures.there c.finish_line.ensures.plays
