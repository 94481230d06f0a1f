use Rattle.std.proofs.Common.{◌≡◌, ℕ, List, [], ◌∷◌, ◌++◌, take, drop, refl}
use borrow.Rule.Slice.PartMut.{put_mid}
use Rattle.jl_array.specs.Dumps.{dump_mark, dump_head, count_bytes}
use Rattle.jl_array.proofs.blocks.head_of.Goals as goal

-- what stood behind the mark at first
unfoldable zeros : List ℕ
zeros = 0 ∷ 0 ∷ 0 ∷ 0 ∷ 0 ∷ 0 ∷ 0 ∷ 0 ∷ []

-- the mark, and then the count in its place
put_head : (mark count : List ℕ) (n : ℕ) → mark ≡ dump_mark
    → count ≡ count_bytes n ++ drop 8 (take 8 (drop 7 (mark ++ zeros)))
    → put_mid 7 8 (mark ++ zeros) count ≡ dump_head n
unfolding dump_mark dump_head count_bytes zeros
put_head mark count n is_mark is_count = rw (is_count, is_mark) refl

-- the head of this count
pub returns : goal.returns
unfolding dump_mark count_bytes zeros
returns c =
    put_head c.copy_from_slice.new.self c.write_u64.new.buf c.args.count
    c.copy_from_slice.ensures.after c.write_u64.ensures
