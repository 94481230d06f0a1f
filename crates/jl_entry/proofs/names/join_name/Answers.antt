use Rattle.jl_text.proofs.Names.{is_part-is_name}
use Rattle.jl_entry.proofs.names.join_name.Goals as goal

pub join-requires : goal.join-requires
join-requires c = is_part-is_name c.args.name.now c.requires
