-- The texts of the error stream at a run's end.
use Rattle.std.specs.Prelude.{ℕ, ◌≤◌, List}
use Rattle.jl_streams.specs.Views.{SinkView}
use Rattle.jl_tracker.specs.Stages.{SinkPoint, sink_point}
use Rattle.jl_tracker.specs.Plays.{Wrote}

-- the same stream where it stands then
abbrev pub sink_at : SinkView → SinkPoint → SinkView
sink_at v p = record v { written = p.written; faults = p.faults }

-- one text and then another: each was written whole, or a first part of it where a fault rose in its own writing
pub record WroteBoth (first second : List ℕ) (err err' : SinkView) : Type 0 where
  pub between : SinkPoint
  pub wrote_first : Wrote first (sink_point err) between
  pub wrote_second : Wrote second between (sink_point err')

-- whatever was written before it, the last text was written whole, or a first part of it where a fault rose in its own writing
pub record WroteLast (last : List ℕ) (err err' : SinkView) : Type 0 where
  pub before : SinkPoint
  pub later : err.faults ≤ before.faults
  pub wrote : Wrote last before (sink_point err')
