use Rattle.std.proofs.Common.{◌≡◌, drop, length}
use Rattle.jl_value.specs.Tree.{items_of}
use Rattle.jl_value.specs.Form.{trees_of}
use Rattle.jl_value.specs.Same.{items_eq}
use Rattle.jl_operands.specs.Lists.{wholes}
use Rattle.jl_builtins.proofs.same.are_numbers.Given as goal

abbrev pub invariant-loop-place : goal.invariant-loop-place
invariant-loop-place l =
    (length l.items ≡ length l.numbers)
    × (items_eq (items_of (trees_of l.items)) (items_of (wholes l.numbers)) ≡ items_eq (items_of (trees_of (drop l.place l.items))) (items_of (wholes (drop l.place l.numbers))))
