use Rattle.std.proofs.Common.{◌≡◌, drop}
use Rattle.jl_value.specs.Tree.{items_of}
use Rattle.jl_value.specs.Form.{trees_of}
use Rattle.jl_builtins.specs.Calls.{are_whole}
use Rattle.jl_builtins.proofs.calls.are_whole.Given as goal

abbrev pub invariant-loop-item : goal.invariant-loop-item
invariant-loop-item l = are_whole (items_of (trees_of (drop l.item-index l.items))) ≡ are_whole (items_of (trees_of l.items))
