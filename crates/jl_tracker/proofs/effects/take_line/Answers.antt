use Rattle.std.proofs.Common.{refl}
use Rattle.jl_tracker.specs.TrackerLines.{view_of}
use Rattle.jl_tracker.specs.Effects.{reports_bad}
use Rattle.jl_tracker.proofs.PlayLemmas.{line_ends, bad_ends, kept_ends, said_removable}
use Rattle.jl_tracker.proofs.effects.take_line.Goals as goal

pub take_good-requires : goal.take_good-requires
take_good-requires g c = said_removable c.args.bytes.now (view_of c.in-Ok.line) c.in-Ok.ensures.read

pub returns-in-Ok-clause-plays : goal.returns-in-Ok-clause-plays
returns-in-Ok-clause-plays g c = line_ends c.args.number c.args.bytes.now (view_of c.in-Ok.line) c.args.counts.now c.take_good.new.counts c.take_good.result _ _ c.in-Ok.ensures.read c.take_good.ensures.plays

pub returns-in-Err-clause-plays : goal.returns-in-Err-clause-plays
returns-in-Err-clause-plays g c =
    let folder = g.F.Folder.view c.args.folder.now in
    bad_ends c.args.number c.args.bytes.now c.args.counts.now c.say_bad.result _ _ c.in-Err.ensures.read
    (kept_ends (reports_bad c.args.number) g.E.Sink.view c.args.err.now c.say_bad.new.err folder folder c.say_bad.result c.say_bad.ensures.wrote (λ t. refl) (λ t. refl))
