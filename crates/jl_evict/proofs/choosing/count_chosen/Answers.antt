use Rattle.std.proofs.Common.{◌≡◌, true, true≢false, sym, ap, below_more, arith, ◌∙◌}
use Rattle.std.proofs.lemmas.List.Sums.{sum_by_more}
use Rattle.jl_evict.specs.declared.item.Item.{Item}
use Rattle.jl_evict.specs.Choosing.{excess}
use Rattle.jl_evict.proofs.ChoosingLemmas.{goes_on_here}
use Rattle.jl_evict.proofs.choosing.count_chosen.Goals as goal

pub loop-i-preserved : goal.loop-i-preserved
loop-i-preserved c = record {
  sum = omega (arith, sum_by_more (λ (x : Item). x.bytes) c.args.items.now c.loop-i.i c.index-items-i-in-loop-i.result c.loop-i-test.true, c.loop-i.invariant.sum, c.from-bytes.ensures);
  fewer = below_more _ _ c.loop-i.invariant.fewer
      (λ stop.
      let test : c.may_stop.result ≡ true = c.may_stop.ensures.1 (goes_on_here c.args.limits.now c.args.now c.args.items.now c.loop-i.i c.loop-i.bytes c.beyond.result c.beyond-2.result c.index-items-i.result c.loop-i-test.true c.index-items-i.is c.loop-i.invariant.sum (c.beyond.ensures ∙ ap (λ n. excess n c.args.limits.now.bytes) c.total_bytes.ensures.total) c.beyond-2.ensures stop) in
      true≢false (sym test ∙ c.if-may_stop.false));
}
