use Rattle.std.proofs.Common.{◌≡◌, Bool, true, false, not, take, true≢false, refl, sym, ap, ◌∙◌}
use Rattle.std.proofs.lemmas.List.{take_rest}
use Rattle.std.proofs.lemmas.Slice.Eq.{bytes_eq-Decides}
use Rattle.jl_array.specs.Dumps.{dump_mark}
use Rattle.jl_array.proofs.Numerals.{small_bytes, head_is}
use Rattle.jl_array.proofs.blocks.count_of.Goals as goal

-- what isn't unequal is equal
not_apart : (b : Bool) → not b ≡ false → b ≡ true
not_apart true e = refl
not_apart false e = cc

-- another front isn't the mark
pub returns-then-ne-clause-none : goal.returns-then-ne-clause-none
unfolding dump_mark
returns-then-ne-clause-none c = λ same.
    let equal = (bytes_eq-Decides (take 7 c.args.head.now) dump_mark).1 same in
    true≢false (sym c.if-ne.true ∙ c.ne.ensures ∙ ap not equal)

-- behind the mark stands the count
pub returns-clause-some : goal.returns-clause-some
unfolding dump_mark
returns-clause-some c =
    let head = c.args.head.now in
    let mark =
    (bytes_eq-Decides (take 7 head) dump_mark).0 (not_apart _ (sym c.ne.ensures ∙ c.if-ne.false)) in
    let count = rw (take_rest head 7) at c.read_u64.ensures in
    head_is head c.read_u64.result c.requires (small_bytes head c.type_inv.head) mark count
