-- What the command of a run did, each by a record of its own.
use Rattle.std.specs.Prelude.{ℕ, List, Option, Some, None, ⊤}
use Rattle.jl_streams.specs.Views.{SinkView}
use Rattle.jl_tracker.specs.Stages.{SinkPoint}
use Rattle.jl_cmd.specs.declared.ended.Ended.{Ended}
use Rattle.jl_cmd.specs.Commands.{Command, call, hash, clear, reduce_size, tracker}
use Rattle.jl_cmd.specs.Course.{Course, stretch_of}
use Rattle.jl_cmd.specs.Met.{Met}
use Rattle.jl_cmd.specs.Reporting.{sink_at}
use Rattle.jl_cmd.specs.of.Call.{CallDid}
use Rattle.jl_cmd.specs.of.Clear.{ClearDid}
use Rattle.jl_cmd.specs.of.Reduce.{ReduceDid}
use Rattle.jl_cmd.specs.of.Track.{FollowsLines}

-- what a command did that ended so, by what was met, with these lines of warnings still to be written
abbrev pub DidBy : Command → Course → Met → (err : SinkView) → SinkPoint → Ended → (said : List ℕ) → Type 0
DidBy (call file location name args) w met err point e said = CallDid file location name args (stretch_of w) met w.out w.out' e said
DidBy (hash args) w met err point e said = ⊤
DidBy (clear location m f key) w met err point e said = ClearDid location m f key w.folder w.folder' e
DidBy (reduce_size location limits) w met err point e said = ReduceDid location limits w e
DidBy tracker w met err point e said = FollowsLines w.input w.input' w.folder w.folder' err (sink_at err point) e

-- the same of what words give
abbrev pub GivenDid : Option Command → Course → Met → (err : SinkView) → SinkPoint → Ended → (said : List ℕ) → Type 0
GivenDid None w met err point e said = ⊤
GivenDid (Some s) w met err point e said = DidBy s w met err point e said
