use Rattle.std.proofs.Common.{◌≡◌, drop}
use Rattle.std.specs.Prelude.{pos}
use Rattle.jl_value.specs.Tree.{items_of}
use Rattle.jl_value.specs.Form.{trees_of}
use Rattle.jl_builtins.specs.Calls.{items_sum}
use Rattle.jl_builtins.proofs.calls.items_sum.Given as goal

abbrev pub invariant-loop-item : goal.invariant-loop-item
invariant-loop-item l = items_sum l.total (items_of (trees_of (drop l.item-index l.items))) ≡ items_sum (pos 0) (items_of (trees_of l.items))
