use Rattle.std.proofs.Common.{All, take}
use Rattle.jl_memory.specs.Trees.{StandsWell}
use Rattle.jl_memory.proofs.tree.Tree.names_stand_well.Given as goal

abbrev pub invariant-loop-name : goal.invariant-loop-name
invariant-loop-name l = All (λ e. StandsWell l.self e.0) (take l.name-index l.self.names)
