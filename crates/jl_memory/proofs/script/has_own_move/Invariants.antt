use Rattle.std.proofs.Common.{drop}
use Rattle.jl_folder.specs.State.{IsForeign}
use Rattle.jl_memory.proofs.script.has_own_move.Given as goal

abbrev pub invariant-loop-entry : goal.invariant-loop-entry
invariant-loop-entry l = IsForeign l.token (drop l.entry-index l.moves) → IsForeign l.token l.moves
