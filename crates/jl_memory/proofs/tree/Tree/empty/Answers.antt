use Rattle.std.proofs.Common.{sym, subst}
use Rattle.jl_folder.specs.State.{IsState}
use Rattle.jl_memory.specs.Tables.{state_of}
use Rattle.jl_memory.proofs.EmptyTree.{empty_state}
use Rattle.jl_memory.proofs.tree.Tree.empty.Goals as goal

pub returns-clause-state : goal.returns-clause-state
returns-clause-state c = subst (λ t. IsState (state_of t)) (sym c.bare_tree.ensures) empty_state
