use Rattle.std.proofs.Common.{◌≡◌, take}
use Rattle.std.specs.Prelude.{fold}
use Rattle.jl_batch.specs.Sizes.{started, sizing_after}
use Rattle.jl_batch.proofs.auto.replay.Given as goal

abbrev pub invariant-loop-step : goal.invariant-loop-step
invariant-loop-step l = l.sizing ≡ fold sizing_after started (take l.step-index l.steps)
