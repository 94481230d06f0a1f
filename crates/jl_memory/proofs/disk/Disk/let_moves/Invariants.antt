use Rattle.std.proofs.Common.{◌≡◌}
use Rattle.jl_memory.specs.Disk.{IsConsistent, LetMoves}
use Rattle.jl_memory.proofs.disk.Disk.let_moves.Given as goal

abbrev pub invariant-loop-token : goal.invariant-loop-token
invariant-loop-token l = record {
  sound : IsConsistent l.initial.self → IsConsistent l.self;
  moved : IsConsistent l.initial.self → LetMoves l.initial.self l.self l.yielded;
  start : l.self.start ≡ l.initial.self.start;
}
