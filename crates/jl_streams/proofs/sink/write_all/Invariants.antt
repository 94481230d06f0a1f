use Rattle.std.proofs.Common.{◌≡◌, ◌-◌, ◌≤◌, ◌++◌, length, take}
use Rattle.jl_streams.proofs.sink.write_all.Given as goal

abbrev pub invariant-loop-at : goal.invariant-loop-at
invariant-loop-at g l = record {
  within : l.at ≤ length l.bytes;
  told : (g.O.Sink.view l.initial.sink).told → (g.O.Sink.view l.sink).told;
  written : (g.O.Sink.view l.initial.sink).told → (g.O.Sink.view l.sink).written ≡ (g.O.Sink.view l.initial.sink).written ++ take l.at l.bytes;
  same : (g.O.Sink.view l.sink).faults ≡ (g.O.Sink.view l.initial.sink).faults;
}

abbrev pub decreases-loop-at : goal.decreases-loop-at
decreases-loop-at g l = length l.bytes - l.at
