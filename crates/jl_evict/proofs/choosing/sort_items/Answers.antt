use Rattle.std.proofs.Common.{rules}
use Rattle.std.proofs.lemmas.List.Sorted.{ranks_by, answers_always}
use Rattle.std.specs.Ordering.{is_lt}
use Rattle.jl_evict.specs.Choosing.{item_cmp}
use Rattle.jl_evict.proofs.OrderLemmas.{item_total}
use Rattle.jl_evict.proofs.choosing.sort_items.Goals as goal

pub returns-clause-sorted : goal.returns-clause-sorted
returns-clause-sorted c = c.sort_unstable_by.ensures.sorted (λ x y. is_lt (item_cmp x y)) (ranks_by item_total (λ x. x)) (answers_always _ _ _ (λ f a r g h. search rules))
