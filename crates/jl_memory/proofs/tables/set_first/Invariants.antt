use Rattle.std.proofs.Common.{◌≡◌, ◌++◌, take, drop}
use Rattle.jl_memory.specs.Tables.{with_place}
use Rattle.jl_memory.proofs.tables.set_first.Given as goal

abbrev pub invariant-loop-i : goal.invariant-loop-i
invariant-loop-i l = record {
  same : l.places.items ≡ l.initial.places.items;
  passed : with_place l.places.items l.path l.what ≡ take l.i l.places.items ++ with_place (drop l.i l.places.items) l.path l.what;
}
