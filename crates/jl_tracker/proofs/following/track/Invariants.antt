use Rattle.std.proofs.Common.{◌≡◌, ◌+◌, ◌-◌, ◌++◌, length}
use Rattle.jl_text.specs.declared.limits.TheConstants.{MOST_INPUT_BYTES}
use Rattle.jl_lines.specs.Steps.{waiting}
use Rattle.jl_tracker.specs.Stages.{StageKeeps, stage}
use Rattle.jl_tracker.specs.Tracking.{Going}
use Rattle.jl_tracker.proofs.following.track.Given as goal

abbrev pub invariant-lines : goal.invariant-lines
invariant-lines g l =
    let source = g.S.Source.view in
    let folder = g.F.Folder.view in
    let err = g.E.Sink.view in
    record {
      told : (source l.initial.source).told → (source l.source).told;
      steady : (source l.source).faults ≡ (source l.initial.source).faults;
      frame : StageKeeps (stage (folder l.initial.folder) (err l.initial.err)) (stage (folder l.folder) (err l.err));
      going : Going (source l.initial.source) (waiting l.reader ++ (source l.source).left) (stage (folder l.initial.folder) (err l.initial.err)) (stage (folder l.folder) (err l.err)) l.reader l.counts;
    }

abbrev pub decreases-lines : goal.decreases-lines
decreases-lines g l = (MOST_INPUT_BYTES - l.reader.taken) + length (waiting l.reader)
