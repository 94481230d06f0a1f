use Rattle.std.proofs.Common.{◌≡◌, take}
use Rattle.std.specs.List.{flat_map}
use Rattle.jl_memory.specs.Scripts.{named_in}
use Rattle.jl_memory.proofs.script.numbers_named.Given as goal

abbrev pub invariant-loop-group : goal.invariant-loop-group
invariant-loop-group l = l.named.items ≡ flat_map (λ o. named_in o.1.items) (take l.group-index l.others)
