-- When nothing more has to go.
use Rattle.std.proofs.Common.{◌≡◌, ℕ, zero, suc, ◌<◌, ◌≤◌, List, [], ◌∷◌, Option, None, Some, length, take, drop, get_or, sym, ap, subst, ◌∙◌, arith}
use Rattle.std.proofs.Math.Seq.{drop-cons}
use Rattle.jl_quota.specs.declared.limits.Limits.{Limits}
use Rattle.jl_evict.specs.declared.item.Item.{Item}
use Rattle.jl_evict.specs.Choosing.{bytes_of, excess, IsSpared, MayStop}

pub excess_within : (n : ℕ) (limit : Option ℕ) → excess n limit ≤ n
excess_within n None = omega arith
excess_within n (Some limit) = omega arith

head_of : (x y : Item) (xs ys : List Item) → x ∷ xs ≡ y ∷ ys → y ≡ x
head_of x y xs ys e = cc

-- the item that is next
pub next_is : (items : List Item) (k : ℕ) (item next : Item) (rest : List Item) → k < length items → item ≡ get_or items k item → drop k items ≡ next ∷ rest → next ≡ item
next_is items k item next rest lt is e = head_of (get_or items k item) next (drop (suc k) items) rest (sym (drop-cons items k item lt) ∙ e) ∙ sym is

pub may_stop_here : (limits : Limits) (now : ℕ) (items : List Item) (k bytes more_bytes more_items : ℕ) (item : Item) → k < length items → item ≡ get_or items k item → bytes ≡ bytes_of (take k items) → more_bytes ≡ excess (bytes_of items) limits.bytes → more_items ≡ excess (length items) limits.items → (more_bytes ≤ bytes) × (more_items ≤ k) × IsSpared limits.age now item → MayStop limits now items k
may_stop_here limits now items k bytes more_bytes more_items item lt is sum b i stops = record {
  bytes = omega (arith, b, sum, stops.0);
  count = omega (arith, i, stops.1);
  age = λ next rest e. subst (λ (x : Item). IsSpared limits.age now x) (sym (next_is items k item next rest lt is e)) stops.2;
}

pub goes_on_here : (limits : Limits) (now : ℕ) (items : List Item) (k bytes more_bytes more_items : ℕ) (item : Item) → k < length items → item ≡ get_or items k item → bytes ≡ bytes_of (take k items) → more_bytes ≡ excess (bytes_of items) limits.bytes → more_items ≡ excess (length items) limits.items → MayStop limits now items k → (more_bytes ≤ bytes) × (more_items ≤ k) × IsSpared limits.age now item
goes_on_here limits now items k bytes more_bytes more_items item lt is sum b i stop = (
  omega (arith, b, sum, stop.bytes),
  omega (arith, i, stop.count),
  stop.age item (drop (suc k) items) (drop-cons items k item lt ∙ ap (λ (x : Item). x ∷ drop (suc k) items) (sym is)),
)

past_end : (items : List Item) (k : ℕ) (next : Item) (rest : List Item) → length items ≤ k → drop k items ≡ next ∷ rest → ⊥
past_end [] k next rest le e = none k e
  where
    none : (k : ℕ) → drop {A = Item} k [] ≡ next ∷ rest → ⊥
    none zero e = cc
    none (suc k) e = cc
past_end (x ∷ xs) zero next rest le e = omega (arith, le)
past_end (x ∷ xs) (suc k) next rest le e = past_end xs k next rest (omega (arith, le)) e

-- all of them may go
pub may_stop_at_end : (limits : Limits) (now : ℕ) (items : List Item) (k : ℕ) → length items ≤ k → take k items ≡ items → MayStop limits now items k
may_stop_at_end limits now items k le all = record {
  bytes = subst (λ (xs : List Item). excess (bytes_of items) limits.bytes ≤ bytes_of xs) (sym all) (excess_within (bytes_of items) limits.bytes);
  count = omega (arith, le, excess_within (length items) limits.items);
  age = λ next rest e. absurd (past_end items k next rest le e);
}
