-- Pieces that are written one behind another.
use Rattle.std.proofs.Common.{◌≡◌, ℕ, ◌+◌, ◌≤◌, List, ◌++◌, length, take, drop, sym, ◌∙◌, ap, arith, take-add, ◌-◌}
use Rattle.std.proofs.lemmas.List.{append_assoc, length-drop, take_all}
use Rattle.jl_streams.specs.Streams.{WritesPrefix}

-- the slice from a place to the end
pub rest_is : (bytes : List ℕ) (at : ℕ) → take (length bytes - at) (drop at bytes) ≡ drop at bytes
rest_is bytes at = take_all (length bytes - at) (drop at bytes) (omega (arith, length-drop at bytes))

-- k bytes behind the first ones are the first bytes of a longer prefix
pub written_more : (bytes before between after : List ℕ) (at k : ℕ) → between ≡ before ++ take at bytes → after ≡ between ++ take k (drop at bytes) → after ≡ before ++ take (at + k) bytes
written_more bytes before between after at k first next =
    next ∙ ap (λ w. w ++ take k (drop at bytes)) first ∙ append_assoc before (take at bytes) (take k (drop at bytes)) ∙ ap (λ t. before ++ t) (sym (take-add at k bytes))

-- a prefix of the rest, behind the first ones, is a prefix of all
pub WritesPrefix-more : (bytes before between after : List ℕ) (at : ℕ) → at ≤ length bytes → between ≡ before ++ take at bytes → WritesPrefix (drop at bytes) between after → WritesPrefix bytes before after
WritesPrefix-more bytes before between after at le first next = record {
  count = at + next.count;
  within = omega (arith, next.within, length-drop at bytes);
  gains = written_more bytes before between after at next.count first next.gains;
}
