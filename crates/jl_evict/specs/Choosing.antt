-- Which items go.
use Rattle.std.specs.Prelude.{◌≡◌, ◌⊎◌, ℕ, ◌-◌, ◌≤◌, ◌<◌, List, ◌∷◌, Option, None, Some, length, take, drop, sum_by, ⊤}
use Rattle.std.specs.Ordering.{nat_cmp, then_cmp}
use Rattle.std.specs.Cmp.Lexicographic.{slice_cmp}
use Rattle.std.specs.declared.cmp.Ordering.{Ordering}
use Rattle.jl_quota.specs.declared.limits.Limits.{Limits}
use Rattle.jl_evict.specs.declared.item.Item.{Item}

-- used less lately, or at one moment and with the path that comes first in byte order
abbrev pub item_cmp : Item → Item → Ordering
item_cmp = then_cmp (λ a b. nat_cmp a.access b.access) (λ a b. slice_cmp nat_cmp a.path b.path)

-- the bytes of items
abbrev pub bytes_of : List Item → ℕ
bytes_of items = sum_by (λ i. i.bytes) items

-- by how much a number is beyond a limit
abbrev pub excess : ℕ → Option ℕ → ℕ
excess n None = 0
excess n (Some limit) = n - limit

-- there is no age limit, or the item is younger than it; so is one that was used after now
abbrev pub IsSpared : Option ℕ → (now : ℕ) → Item → Type 0
IsSpared None now item = ⊤
IsSpared (Some age) now item = (now < item.access) ⊎ (now - item.access < age)

-- nothing more has to go where the first k items went
pub record MayStop (limits : Limits) (now : ℕ) (items : List Item) (k : ℕ) : Type 0 where
  pub bytes : excess (bytes_of items) limits.bytes ≤ bytes_of (take k items)
  pub count : excess (length items) limits.items ≤ k
  pub age : (next : Item) (rest : List Item) → drop k items ≡ next ∷ rest → IsSpared limits.age now next

-- the first k items go, and no fewer would do
pub record IsShortest (limits : Limits) (now : ℕ) (items : List Item) (k : ℕ) : Type 0 where
  pub within : k ≤ length items
  pub enough : MayStop limits now items k
  pub fewest : (j : ℕ) → j < k → MayStop limits now items j → ⊥
