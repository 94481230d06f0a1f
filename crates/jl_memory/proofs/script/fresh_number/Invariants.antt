use Rattle.std.proofs.Common.{◌≡◌, ◌<◌, ℕ, true}
use Rattle.jl_memory.specs.Scripts.{is_taken}
use Rattle.jl_memory.proofs.script.fresh_number.Given as goal

abbrev pub invariant-loop-n : goal.invariant-loop-n
invariant-loop-n l = (k : ℕ) → k < l.n → is_taken l.nodes l.named k ≡ true
