use Rattle.jl_entry.specs.Names.{root_of}
use Rattle.jl_clear_cases.proofs.clearing.entries.Goals as goal

pub clear_entries-requires : goal.clear_entries-requires
clear_entries-requires g c =
    (root_of c.args.location.now, (c.args.module.now, c.args.name.now, c.requires.module_name, c.requires.function_name, c.in-Ok.ensures))
