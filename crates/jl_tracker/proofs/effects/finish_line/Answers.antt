use Rattle.std.proofs.Common.{subst, sym}
use Rattle.jl_tracker.specs.TrackerLines.{view_of}
use Rattle.jl_tracker.specs.Effects.{effects_of}
use Rattle.jl_tracker.specs.Plays.{PlaysOrStops}
use Rattle.jl_tracker.specs.Stages.{stage}
use Rattle.jl_tracker.proofs.PlayLemmas.{none_ends}
use Rattle.jl_tracker.proofs.effects.finish_line.Goals as goal

pub returns-in-Register-clause-plays : goal.returns-in-Register-clause-plays
returns-in-Register-clause-plays g c =
    let a = stage (g.F.Folder.view c.args.folder.now) (g.E.Sink.view c.args.err.now) in
    subst (λ l. PlaysOrStops c.counted.result (effects_of (view_of l) c.args.step) a a) (sym c.in-Register.is) (none_ends a c.counted.result)

pub returns-in-Probe-clause-plays : goal.returns-in-Probe-clause-plays
returns-in-Probe-clause-plays g c =
    let a = stage (g.F.Folder.view c.args.folder.now) (g.E.Sink.view c.args.err.now) in
    subst (λ l. PlaysOrStops c.counted-in-Probe.result (effects_of (view_of l) c.args.step) a a) (sym c.in-Probe.is) (none_ends a c.counted-in-Probe.result)
