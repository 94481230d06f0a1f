use Rattle.std.proofs.Common.{All, take}
use Rattle.jl_memory.specs.Trees.{StandsWell}
use Rattle.jl_memory.proofs.tree.Tree.folders_stand_well.Given as goal

abbrev pub invariant-loop-path : goal.invariant-loop-path
invariant-loop-path l = All (StandsWell l.self) (take l.path-index l.self.folders)
