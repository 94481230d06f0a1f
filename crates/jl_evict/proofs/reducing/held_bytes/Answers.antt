use Rattle.std.proofs.Common.{◌∙◌, List, refl, ap}
use Rattle.std.proofs.lemmas.List.{take_all}
use Rattle.jl_evict.specs.declared.item.Item.{Item}
use Rattle.jl_evict.specs.Choosing.{bytes_of}
use Rattle.jl_evict.specs.Items.{held}
use Rattle.jl_evict.proofs.SumLemmas.{held_more}
use Rattle.jl_evict.proofs.reducing.held_bytes.Goals as goal

pub loop-item-preserved : goal.loop-item-preserved
loop-item-preserved c =
    held_more (λ (x : Item). x.bytes) c.args.items.now c.loop-item.item-index c.item-item.result c.loop-item.sum c.item-item.result.bytes c.saturating_add-sum.result c.loop-item-test.true c.item-item.is c.loop-item.invariant refl c.saturating_add-sum.ensures

pub returns : goal.returns
returns c = c.loop-item.invariant ∙ ap (λ (xs : List Item). held (bytes_of xs)) (take_all c.loop-item.item-index c.args.items.now c.loop-item-test.false)
