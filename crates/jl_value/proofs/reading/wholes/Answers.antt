use Rattle.std.proofs.Common.{[], ◌∷◌, ◌++◌, Some, sym, ap, ◌∙◌, arith, append-nil, rules}
use Rattle.std.proofs.lemmas.Int.{to_z-of_z}
use mir.Syntax.{w64}
use mir.Val.{SFits}
use Rattle.serde_json.specs.View.{view, items_view}
use Rattle.serde_json.proofs.Views.{view-Array}
use Rattle.jl_value.specs.Reading.{array_in, wholes_in}
use Rattle.jl_value.proofs.Walks.{whole_step, whole_end, are_whole_push, whole_fits}
use Rattle.jl_value.proofs.reading.wholes.Goals as goal

pub loop-item-preserved : goal.loop-item-preserved
loop-item-preserved c =
    let fits : SFits w64 c.in-Some.n = search rules in
    let pushed = c.in_ok-push.ensures.items ∙ ap (λ z. c.loop-item.found.items ++ z ∷ []) (to_z-of_z w64 c.in-Some.n fits) in
    rw pushed (
      whole_step c.loop-item.found.items c.in-Some.n c.deref-item-items.result.now c.loop-item.item-index c.item-item.result _ c.loop-item-test.true c.item-item.is (sym c.in-Some.ensures) c.loop-item.invariant.0,
      are_whole_push c.loop-item.found.items c.in-Some.n c.loop-item.invariant.1 (whole_fits c.in-Some.n fits),
    )

pub returns-clause-value : goal.returns-clause-value
returns-clause-value c =
    let is_array = ap view c.in-Array.is ∙ view-Array c.in-Array.items in
    sym (ap array_in is_array ∙ ap (λ l. wholes_in (items_view l)) (sym c.deref-item-items.ensures.value)
    ∙ whole_end c.loop-item.found.items c.deref-item-items.result.now c.loop-item.item-index _ (omega arith) c.loop-item.invariant.0 ∙ ap Some (append-nil _))
