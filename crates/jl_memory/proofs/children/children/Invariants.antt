use Rattle.std.proofs.Common.{drop}
use Rattle.jl_memory.proofs.ChildLemmas.{ChildrenSoFar}
use Rattle.jl_memory.proofs.children.children.Given as goal

abbrev pub invariant-loop-entry : goal.invariant-loop-entry
invariant-loop-entry l = ChildrenSoFar l.places l.path l.names.items (drop l.entry-index l.places)
