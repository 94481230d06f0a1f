use Rattle.std.proofs.Common.{◌≡◌, ◌⊎◌, drop, false, None}
use Rattle.jl_text.specs.Paths.{PathView, is_fixed, parent}
use Rattle.jl_memory.specs.Tables.{found}
use Rattle.jl_memory.proofs.tables.has_child.Given as goal

abbrev pub invariant-loop-entry : goal.invariant-loop-entry
invariant-loop-entry l = (q : PathView) → is_fixed q ≡ false → parent q ≡ l.parts → (found l.places q ≡ None) ⊎ (found (drop l.entry-index l.places) q ≡ found l.places q)
