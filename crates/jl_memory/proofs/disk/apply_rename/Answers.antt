use Rattle.std.proofs.Common.{◌≡◌, Some}
use Rattle.jl_folder.specs.declared.moves.Place.TheVariants.{File}
use Rattle.jl_memory.specs.Tables.{found}
use Rattle.jl_memory.proofs.DiskLemmas.{agrees-rename}
use Rattle.jl_memory.proofs.disk.apply_rename.Goals as goal

pub returns-in_ok-set_place-clause-ok : goal.returns-in_ok-set_place-clause-ok
returns-in_ok-set_place-clause-ok c = λ s t a allowed.
    let is : found c.args.places.now.items c.args.from.now ≡ Some (File c.in-Some-File.number) = cc in
    agrees-rename s t _ c.set_place.new.places.items c.clear_place.new.places.items _ c.freeze_node.new.nodes.items c.args.from.now c.args.to.now c.in-Some-File.number a allowed.0 is c.in_ok-set_place.ensures.ok c.clear_place.ensures c.freeze_node.ensures
