-- The order in which items go.
use Rattle.std.specs.Cmp.{IsTotalOrder, nat_cmp_total}
use Rattle.std.proofs.lemmas.Cmp.{then_total, nat_list_cmp_total}
use Rattle.std.specs.declared.cmp.Ordering.{Ordering}
use Rattle.jl_evict.specs.declared.item.Item.{Item}
use Rattle.jl_evict.specs.Choosing.{item_cmp}

-- an order of values is one of what has them
by_key : {K : Type 0} {R : K → K → Ordering} → IsTotalOrder R → (key : Item → K) → IsTotalOrder (λ x y. R (key x) (key y))
by_key o key = record { antisymm = λ x y. o.antisymm (key x) (key y); trans = λ x y z. o.trans (key x) (key y) (key z); congr = λ x y z. o.congr (key x) (key y) (key z) }

pub item_total : IsTotalOrder item_cmp
item_total = then_total (by_key nat_cmp_total (λ (x : Item). x.access)) (by_key nat_list_cmp_total (λ (x : Item). x.path))
