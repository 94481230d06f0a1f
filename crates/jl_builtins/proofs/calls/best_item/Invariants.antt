use Rattle.std.proofs.Common.{◌≡◌, drop}
use Rattle.jl_value.specs.Tree.{items_of}
use Rattle.jl_value.specs.Form.{trees_of}
use Rattle.jl_builtins.specs.Calls.{items_best}
use Rattle.jl_builtins.proofs.calls.best_item.Given as goal

abbrev pub invariant-loop-item : goal.invariant-loop-item
invariant-loop-item l = items_best l.least l.best (items_of (trees_of (drop l.item-index l.items))) ≡ items_best l.least l.first (items_of (trees_of l.items))
