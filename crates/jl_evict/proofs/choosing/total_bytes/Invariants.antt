use Rattle.std.proofs.Common.{◌≡◌, ◌≤◌, ◌-◌, ◌*◌, ◌^◌, take}
use Rattle.jl_evict.specs.Choosing.{bytes_of}
use Rattle.jl_evict.proofs.choosing.total_bytes.Given as goal

abbrev pub invariant-loop-item : goal.invariant-loop-item
invariant-loop-item l = record { total : l.total ≡ bytes_of (take l.item-index l.items); room : l.total ≤ (2 ^ 64 - 1) * l.item-index }
