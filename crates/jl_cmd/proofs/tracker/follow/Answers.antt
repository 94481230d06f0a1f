use Rattle.jl_cmd.proofs.tracker.follow.Goals as goal

pub returns-clause-follows : goal.returns-clause-follows
returns-clause-follows g c = record { tracked = c.track-tracked.result; tracks = c.track-tracked.ensures.tracks; moves = c.track-tracked.ensures.moves; ends = c.end_of.ensures }

pub returns-clause-frame : goal.returns-clause-frame
returns-clause-frame g c = c.track-tracked.ensures.frame.folder

pub returns-clause-err : goal.returns-clause-err
returns-clause-err g c = c.track-tracked.ensures.frame.err
