use Rattle.std.proofs.Common.{◌≡◌, drop}
use Rattle.jl_memory.specs.Tables.{found}
use Rattle.jl_memory.proofs.tables.place_of.Given as goal

abbrev pub invariant-loop-entry : goal.invariant-loop-entry
invariant-loop-entry l = found (drop l.entry-index l.places) l.parts ≡ found l.places l.parts
