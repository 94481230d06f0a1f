use Rattle.jl_value.specs.Tree.{text, whole}
use Rattle.jl_value.specs.Key.{args_tree}
use Rattle.jl_entry.proofs.Entries.{parts_are, last_of}
use Rattle.std.proofs.Common.{pos}
use Rattle.jl_entry.proofs.output.last_value.Goals as goal

pub returns-in-Table : goal.returns-in-Table
returns-in-Table c = λ code ps t is.
    let parts = parts_are c.args.whole c.in-Table.table c.in-Table.is c.into_vec.result.items c.into_vec.ensures code ps t is in
    let found = last_of c.into_vec.result.items (args_tree ps) (text code) (whole (pos 1)) t parts in
    c.last_member.ensures found.0 found.1 t found.2 found.3
