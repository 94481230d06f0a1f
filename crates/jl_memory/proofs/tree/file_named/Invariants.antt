use Rattle.std.proofs.Common.{◌≡◌, Some, map, drop}
use Rattle.jl_folder.specs.declared.moves.Place.TheVariants.{File}
use Rattle.jl_memory.specs.Tables.{found}
use Rattle.jl_memory.proofs.tree.file_named.Given as goal

abbrev pub invariant-loop-name : goal.invariant-loop-name
invariant-loop-name l = found (map (λ e. (e.0, Some (File e.1))) (drop l.name-index l.names)) l.parts ≡ found (map (λ e. (e.0, Some (File e.1))) l.names) l.parts
