use Rattle.std.proofs.Common.{◌≡◌, take}
use Rattle.jl_evict.specs.Choosing.{bytes_of}
use Rattle.jl_evict.specs.Items.{held}
use Rattle.jl_evict.proofs.reducing.held_bytes.Given as goal

abbrev pub invariant-loop-item : goal.invariant-loop-item
invariant-loop-item l = l.sum ≡ held (bytes_of (take l.item-index l.items))
