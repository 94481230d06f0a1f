-- What stands on the error stream before the last text of a run.
use Rattle.std.specs.Prelude.{◌≡◌, ◌⊎◌, ℕ, List, [], ◌++◌, Option, Some}
use Rattle.jl_text.specs.Paths.{PathView}
use Rattle.jl_streams.specs.Views.{SinkView}
use Rattle.jl_tracker.specs.Stages.{SinkPoint, sink_point}
use Rattle.jl_cmd.specs.Commands.{Command, call}
use Rattle.jl_cmd.specs.Course.{Course, stretch_of, IsClear}
use Rattle.jl_cmd.specs.Met.{Met, bytes_in}
use Rattle.jl_cmd.specs.Needs.{AreCalling, AreTelling}
use Rattle.jl_cmd.specs.Reporting.{sink_at}
use Rattle.jl_cmd.specs.Statuses as status
use Rattle.jl_cmd.specs.of.Call.{CallSays}

-- what a command wrote to the error stream by itself: nothing, but for one that has texts of its own, which stand behind the others
pub record TellsBehind (given : Option Command) (err : SinkView) (point : SinkPoint) : Type 0 where
  pub quiet : (AreTelling given → ⊥) → point ≡ sink_point err
  pub behind : IsClear err (sink_at err point) → (said : List ℕ) × (point.written ≡ err.written ++ said)

-- what a command said before the last text: the lines of a call's warnings, or texts of its own, and else nothing
pub record SaidBy (given : Option Command) (w : Course) (met : Met) (said : List ℕ) : Type 0 where
  pub silent : (AreCalling given → ⊥) → (AreTelling given → ⊥) → said ≡ []
  pub warned : (file location : PathView) (name args : List ℕ) → given ≡ Some (call file location name args) → CallSays file location (bytes_in met) name args (stretch_of w) said

-- at the statuses of a value and of an error
abbrev pub StatusAt : ℕ → (ℕ → Type 0) → Type 0
StatusAt n P = (n ≡ status.done) ⊎ (n ≡ status.task_error) → P n
