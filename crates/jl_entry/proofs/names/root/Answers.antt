use Rattle.jl_entry.specs.Names.{root_of, root_part}
use Rattle.jl_entry.proofs.names.root.Goals as goal

pub returns : goal.returns
unfolding root_of root_part
returns c = c.join.ensures
