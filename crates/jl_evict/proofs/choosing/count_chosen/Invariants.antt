use Rattle.std.proofs.Common.{◌≡◌, ◌<◌, ℕ, take}
use Rattle.jl_evict.specs.Choosing.{bytes_of, MayStop}
use Rattle.jl_evict.proofs.choosing.count_chosen.Given as goal

abbrev pub invariant-loop-i : goal.invariant-loop-i
invariant-loop-i l = record { sum : l.bytes ≡ bytes_of (take l.i l.items); fewer : (j : ℕ) → j < l.i → MayStop l.limits l.now l.items j → ⊥ }
