use Rattle.std.proofs.Common.{◌≡◌, take}
use Rattle.jl_entry.specs.Names.{below}
use Rattle.jl_evict.proofs.reducing.join_all.Given as goal

abbrev pub invariant-loop-part : goal.invariant-loop-part
invariant-loop-part l = l.path ≡ below l.root (take l.part-index l.parts)
