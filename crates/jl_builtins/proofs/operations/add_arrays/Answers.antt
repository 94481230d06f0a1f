use Rattle.std.proofs.Common.{List, ◌++◌, ◌+◌, ◌-◌, ◌^◌, length, min, sym, ap, ◌∙◌}
use Rattle.std.specs.Prelude.{ℤ, Some, None}
use Rattle.jl_value.specs.Tree.{numbers}
use Rattle.jl_operands.specs.Steps.{done}
use Rattle.jl_operands.proofs.CountLemmas.{counted_is, arrays_weight}
use Rattle.jl_builtins.proofs.operations.add_arrays.Goals as goal

pub returns-in_ok-join_arrays-in-Some : goal.returns-in_ok-join_arrays-in-Some
returns-in_ok-join_arrays-in-Some c =
    let left = c.length_weight.ensures ∙ ap (λ (l : List ℤ). min (1 + length l) (2 ^ 64 - 1)) c.as_slice.ensures in
    let both = c.saturating_add-more.ensures ∙ ap (λ (l : List ℤ). min (c.length_weight.result + length l) (2 ^ 64 - 1)) c.as_slice-2.ensures in
    counted_is (Some c.in-Some.steps) c.args.steps c.saturating_add-more.result (numbers (c.args.left.now ++ c.args.right.now))
    (arrays_weight c.args.left.now c.args.right.now c.length_weight.result c.saturating_add-more.result left both)
    c.in-Some.ensures
    ∙ ap (λ (s : List ℤ). done (numbers s) c.in-Some.steps) (sym c.in_ok-join_arrays-in-Some.ensures)

pub returns-in-None : goal.returns-in-None
returns-in-None c =
    let left = c.length_weight.ensures ∙ ap (λ (l : List ℤ). min (1 + length l) (2 ^ 64 - 1)) c.as_slice.ensures in
    let both = c.saturating_add-more.ensures ∙ ap (λ (l : List ℤ). min (c.length_weight.result + length l) (2 ^ 64 - 1)) c.as_slice-2.ensures in
    counted_is None c.args.steps c.saturating_add-more.result (numbers (c.args.left.now ++ c.args.right.now))
    (arrays_weight c.args.left.now c.args.right.now c.length_weight.result c.saturating_add-more.result left both)
    c.in-None.ensures
