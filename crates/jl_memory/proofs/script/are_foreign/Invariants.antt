use Rattle.std.proofs.Common.{All, take}
use Rattle.jl_folder.specs.State.{IsForeign}
use Rattle.jl_memory.proofs.script.are_foreign.Given as goal

abbrev pub invariant-loop-group : goal.invariant-loop-group
invariant-loop-group l = All (λ o. IsForeign l.token o.1.items) (take l.group-index l.others)
