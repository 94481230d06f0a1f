use Rattle.std.proofs.Common.{subst}
use Rattle.hex.specs.Hex.{encode_lower}
use Rattle.jl_entry.specs.Names.{IsFinal, entry_of, root_of}
use Rattle.jl_store.specs.Keeping.{entry_in, file_of}
use Rattle.jl_store.proofs.keeping.file_names.Goals as goal

pub returns-clause-last : goal.returns-clause-last
returns-clause-last c =
    subst (λ m. IsFinal (root_of c.args.memory.now.location) (entry_of c.args.file m c.args.name.now (encode_lower c.args.key.now.0)) c.in_ok-last.last) c.as_str-module.ensures c.in_ok-last.ensures

pub returns-clause-temp : goal.returns-clause-temp
returns-clause-temp c =
    c.in_ok-temp.ensures.temporary (root_of c.args.memory.now.location) (file_of (entry_in c.args.memory.now c.args.name.now c.args.key.now.0) c.args.file)
    (subst (λ m. IsFinal (root_of c.args.memory.now.location) (entry_of c.args.file m c.args.name.now (encode_lower c.args.key.now.0)) c.in_ok-last.last) c.as_str-module.ensures c.in_ok-last.ensures)
