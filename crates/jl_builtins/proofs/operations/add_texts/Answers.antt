use Rattle.std.proofs.Common.{List, ℕ, ◌+◌, ◌-◌, ◌^◌, ◌++◌, length, min, sym, ap, ◌∙◌}
use Rattle.std.specs.Prelude.{Some, None}
use Rattle.jl_value.specs.Tree.{text}
use Rattle.jl_operands.specs.Steps.{done}
use Rattle.jl_operands.proofs.CountLemmas.{counted_is, texts_weight}
use Rattle.jl_builtins.proofs.operations.add_texts.Goals as goal

pub returns-in_ok-join_texts-in-Some : goal.returns-in_ok-join_texts-in-Some
returns-in_ok-join_texts-in-Some c =
    let left = c.length_weight.ensures ∙ ap (λ (l : List ℕ). min (1 + length l) (2 ^ 64 - 1)) c.as_str.ensures in
    let both = c.saturating_add-more.ensures ∙ ap (λ (l : List ℕ). min (c.length_weight.result + length l) (2 ^ 64 - 1)) c.as_str-2.ensures in
    counted_is (Some c.in-Some.steps) c.args.steps c.saturating_add-more.result (text (c.args.left.now ++ c.args.right.now))
    (texts_weight c.args.left.now c.args.right.now c.length_weight.result c.saturating_add-more.result left both)
    c.in-Some.ensures
    ∙ ap (λ (s : List ℕ). done (text s) c.in-Some.steps) (sym c.in_ok-join_texts-in-Some.ensures)

pub returns-in-None : goal.returns-in-None
returns-in-None c =
    let left = c.length_weight.ensures ∙ ap (λ (l : List ℕ). min (1 + length l) (2 ^ 64 - 1)) c.as_str.ensures in
    let both = c.saturating_add-more.ensures ∙ ap (λ (l : List ℕ). min (c.length_weight.result + length l) (2 ^ 64 - 1)) c.as_str-2.ensures in
    counted_is None c.args.steps c.saturating_add-more.result (text (c.args.left.now ++ c.args.right.now))
    (texts_weight c.args.left.now c.args.right.now c.length_weight.result c.saturating_add-more.result left both)
    c.in-None.ensures
