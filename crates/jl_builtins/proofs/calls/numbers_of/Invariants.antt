use Rattle.std.proofs.Common.{◌≡◌, drop}
use Rattle.std.specs.Prelude.{[]}
use Rattle.jl_value.specs.Tree.{items_of}
use Rattle.jl_value.specs.Form.{trees_of}
use Rattle.jl_builtins.specs.Calls.{array_behind}
use Rattle.jl_builtins.proofs.calls.numbers_of.Given as goal

abbrev pub invariant-loop-item : goal.invariant-loop-item
invariant-loop-item l = array_behind l.numbers.items (items_of (trees_of (drop l.item-index l.items))) ≡ array_behind [] (items_of (trees_of l.items))
