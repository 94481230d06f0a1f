-- The tree with nothing in it stands for a state.
use Rattle.jl_folder.specs.State.{IsState}
use Rattle.jl_folder.proofs.Bare.{bare_is_state}
use Rattle.jl_memory.specs.Tables.{state_of}
use Rattle.jl_memory.specs.Trees.{empty_tree}

pub empty_state : IsState (state_of empty_tree)
empty_state = bare_is_state
