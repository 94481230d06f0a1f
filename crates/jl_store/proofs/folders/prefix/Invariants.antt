use Rattle.std.proofs.Common.{◌≡◌, take}
use Rattle.jl_store.proofs.folders.prefix.Given as goal

abbrev pub invariant-loop-i : goal.invariant-loop-i
invariant-loop-i l = l.folder ≡ take l.i l.parts
