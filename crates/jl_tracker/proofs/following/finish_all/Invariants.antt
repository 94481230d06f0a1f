use Rattle.std.proofs.Common.{◌≡◌, ◌++◌, List, length}
use Rattle.jl_tracker.specs.Counting.{left_of}
use Rattle.jl_tracker.specs.Effects.{Effect, end_effects}
use Rattle.jl_tracker.specs.Plays.{Plays}
use Rattle.jl_tracker.specs.Stages.{StageKeeps, stage}
use Rattle.jl_tracker.specs.Turns.{AreRemovable}
use Rattle.jl_tracker.proofs.following.finish_all.Given as goal

abbrev pub invariant-left : goal.invariant-left
invariant-left g l =
    let folder = g.F.Folder.view in
    let err = g.E.Sink.view in
    record {
      frame : StageKeeps (stage (folder l.initial.folder) (err l.initial.err)) (stage (folder l.folder) (err l.err));
      removable : AreRemovable (left_of l.counts);
      played : (first : List Effect) × (end_effects l.initial.counts ≡ first ++ end_effects l.counts) × Plays first (stage (folder l.initial.folder) (err l.initial.err)) (stage (folder l.folder) (err l.err));
    }

abbrev pub decreases-left : goal.decreases-left
decreases-left g l = length (left_of l.counts)
