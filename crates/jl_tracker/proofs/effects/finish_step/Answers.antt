use Rattle.std.proofs.Common.{subst, sym, refl}
use Rattle.jl_tracker.specs.Effects.{step_effects, reports_unknown}
use Rattle.jl_tracker.specs.Plays.{Stops, PlaysOrStops}
use Rattle.jl_tracker.specs.Stages.{stage}
use Rattle.jl_tracker.proofs.PlayLemmas.{kept_ends, stops_none}
use Rattle.jl_tracker.proofs.effects.finish_step.Goals as goal

pub returns-in-Unknown-clause-plays : goal.returns-in-Unknown-clause-plays
returns-in-Unknown-clause-plays g c =
    let folder = g.F.Folder.view c.args.folder.now in
    let view = g.E.Sink.view in
    subst (λ s. PlaysOrStops c.say.result (step_effects c.args.kind c.args.name.now s) (stage folder (view c.args.err.now)) (stage folder (view c.say.new.err))) (sym c.in-Unknown.is)
    (kept_ends (reports_unknown c.args.kind c.args.name.now) view c.args.err.now c.say.new.err folder folder c.say.result c.say.ensures.wrote (λ t. refl) (λ t. refl))

pub returns-in-NoMemory-clause-plays : goal.returns-in-NoMemory-clause-plays
returns-in-NoMemory-clause-plays g c =
    let a = stage (g.F.Folder.view c.args.folder.now) (g.E.Sink.view c.args.err.now) in
    subst (λ s. Stops (step_effects c.args.kind c.args.name.now s) a a) (sym c.in-NoMemory.is) (stops_none a)
