use Rattle.std.proofs.Common.{◌∙◌, refl}
use Rattle.jl_tracker.specs.Stages.{stage}
use Rattle.jl_tracker.proofs.HeldLemmas.{left_removable}
use Rattle.jl_tracker.proofs.MoveLemmas.{tracks_moves}
use Rattle.jl_tracker.proofs.StageLemmas.{stage_keeps_none, stage_keeps_trans}
use Rattle.jl_tracker.proofs.TrackLemmas.{going_start, goes_on, concludes, smaller, no_fault, fault_ends}
use Rattle.jl_tracker.proofs.following.track.Goals as goal

pub lines-init : goal.lines-init
lines-init g c = record {
  told = λ t. t;
  steady = refl;
  frame = stage_keeps_none (stage (g.F.Folder.view c.args.folder.now) (g.E.Sink.view c.args.err.now));
  going = going_start (g.S.Source.view c.args.source.now) (stage (g.F.Folder.view c.args.folder.now) (g.E.Sink.view c.args.err.now)) c.new-reader.result c.new-counts.result c.new-reader.ensures c.new-counts.ensures;
}

pub handle-requires : goal.handle-requires
handle-requires g c = left_removable c.lines.counts c.lines.invariant.going.paths

pub returns-in-Some-clause-tracks : goal.returns-in-Some-clause-tracks
returns-in-Some-clause-tracks g c =
    let source = g.S.Source.view in
    let folder = g.F.Folder.view in
    let err = g.E.Sink.view in
    let i = c.lines.invariant in
    concludes (source c.args.source.now) (source c.lines.source) (source c.next-answer.new.source) (stage (folder c.args.folder.now) (err c.args.err.now)) (stage (folder c.lines.folder) (err c.lines.err)) (stage (folder c.handle.new.folder) (err c.handle.new.err)) c.lines.reader c.next-answer.new.self c.lines.counts c.next-answer.result c.number-number.result c.in-Some.end c.number-number.ensures i.told i.frame i.going (λ met. (c.next-answer.ensures.over met).0) c.next-answer.ensures.step c.in-Some.ensures.cases

pub returns-in-Some-clause-moves : goal.returns-in-Some-clause-moves
returns-in-Some-clause-moves g c = λ told.
    let source = g.S.Source.view in
    let folder = g.F.Folder.view in
    let err = g.E.Sink.view in
    tracks_moves (source c.args.source.now) (source c.next-answer.new.source) (stage (folder c.args.folder.now) (err c.args.err.now)) (stage (folder c.handle.new.folder) (err c.handle.new.err)) c.in-Some.end told (returns-in-Some-clause-tracks g c)

pub returns-in-Some-clause-frame : goal.returns-in-Some-clause-frame
returns-in-Some-clause-frame g c =
    let folder = g.F.Folder.view in
    let err = g.E.Sink.view in
    stage_keeps_trans (stage (folder c.args.folder.now) (err c.args.err.now)) (stage (folder c.lines.folder) (err c.lines.err)) (stage (folder c.handle.new.folder) (err c.handle.new.err)) c.lines.invariant.frame c.handle.ensures.frame

pub returns-in-Some-clause-source : goal.returns-in-Some-clause-source
returns-in-Some-clause-source g c =
    let source = g.S.Source.view in
    let folder = g.F.Folder.view in
    let err = g.E.Sink.view in
    let i = c.lines.invariant in
    fault_ends (source c.args.source.now) (source c.lines.source) (source c.next-answer.new.source) (stage (folder c.lines.folder) (err c.lines.err)) (stage (folder c.handle.new.folder) (err c.handle.new.err)) c.next-answer.result c.number-number.result c.in-Some.end c.lines.counts i.told i.steady c.next-answer.ensures.frame c.in-Some.ensures.cases

pub lines-smaller : goal.lines-smaller
lines-smaller g c =
    let source = g.S.Source.view in
    let folder = g.F.Folder.view in
    let err = g.E.Sink.view in
    let i = c.lines.invariant in
    smaller (source c.lines.source) (source c.next-answer.new.source) c.lines.reader c.next-answer.new.self c.next-answer.result c.lines.counts c.handle.new.counts (stage (folder c.lines.folder) (err c.lines.err)) (stage (folder c.handle.new.folder) (err c.handle.new.err)) i.going.short i.going.limit_is c.next-answer.ensures.step c.in_default.ensures.cases

pub lines-preserved : goal.lines-preserved
lines-preserved g c =
    let source = g.S.Source.view in
    let folder = g.F.Folder.view in
    let err = g.E.Sink.view in
    let a = stage (folder c.args.folder.now) (err c.args.err.now) in
    let b = stage (folder c.lines.folder) (err c.lines.err) in
    let d = stage (folder c.handle.new.folder) (err c.handle.new.err) in
    let i = c.lines.invariant in
    record {
      told = λ t. c.next-answer.ensures.frame.told (i.told t);
      steady = c.next-answer.ensures.frame.faults.steady (no_fault c.next-answer.result c.lines.counts c.handle.new.counts b d c.in_default.ensures.cases) ∙ i.steady;
      frame = stage_keeps_trans a b d i.frame c.handle.ensures.frame;
      going = goes_on (source c.args.source.now) (source c.lines.source) (source c.next-answer.new.source) a b d c.lines.reader c.next-answer.new.self c.lines.counts c.handle.new.counts c.next-answer.result i.told i.frame i.going (λ met. (c.next-answer.ensures.over met).0) c.next-answer.ensures.step c.in_default.ensures.cases;
    }
