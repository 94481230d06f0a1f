-- Calls of a folder and of the error stream, one after the other.
use Rattle.std.proofs.Common.{arith}
use Rattle.jl_folder.proofs.Frames.{keeps_none, keeps_trans}
use Rattle.jl_streams.specs.Views.{SinkView, SinkKeeps}
use Rattle.jl_tracker.specs.Stages.{Stage, StageKeeps}

-- no call of a sink
pub sink_keeps_none : (a : SinkView) → SinkKeeps a a
sink_keeps_none a = record { told = λ t. t; later = omega arith }

-- calls of a sink after calls
pub sink_keeps_trans : (a b c : SinkView) → SinkKeeps a b → SinkKeeps b c → SinkKeeps a c
sink_keeps_trans a b c p q = record { told = λ t. q.told (p.told t); later = omega (arith, p.later, q.later) }

-- no call of either
pub stage_keeps_none : (a : Stage) → StageKeeps a a
stage_keeps_none a = record { folder = keeps_none a.folder; err = sink_keeps_none a.err }

-- calls of both after calls
pub stage_keeps_trans : (a b c : Stage) → StageKeeps a b → StageKeeps b c → StageKeeps a c
stage_keeps_trans a b c p q = record { folder = keeps_trans a.folder b.folder c.folder p.folder q.folder; err = sink_keeps_trans a.err b.err c.err p.err q.err }
