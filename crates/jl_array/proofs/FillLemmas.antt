-- A buffer that is filled from a file, read by read.
use Rattle.std.proofs.Common.{◌≡◌, ℕ, ◌+◌, ◌≤◌, ◌<◌, List, ◌++◌, length, take, sym, subst, arith}
use Rattle.std.proofs.lemmas.List.{length-take-le}
use borrow.Rule.Slice.PartMut.{put_mid}
use Rattle.jl_folder.specs.Views.{FolderView}
use Rattle.jl_folder.specs.Calls.{Call, ReadsPart}
use Rattle.jl_folder.proofs.ReadingLemmas.{call_waits}
use Rattle.jl_array.specs.Dumps.{HasPart}
use Rattle.jl_array.specs.Nodes.{OpenHas}
use Rattle.jl_array.proofs.Parts.{part_more, take_put}
use Rattle.jl_array.proofs.NodeFacts.{Gave, has_as, has_both, has_later, part_lasting, read_gives}

module _ (a b : FolderView) (number at have k : ℕ) (buf buf' : List ℕ) (same : b.opens ≡ a.opens)
    (call : Call a b (ReadsPart number (at + have) k buf buf' a.opens)) where
  -- what stood in the file before the read, and what the read gave
  pub before_and_gave : (P : List ℕ → Type 0)
      → ((bytes rest : List ℕ) → P bytes → P (bytes ++ rest)) → OpenHas number P a
      → OpenHas number (λ bytes. P bytes × Gave (at + have) k buf' bytes) b
  before_and_gave P lasts has =
      has_both b number P (Gave (at + have) k buf')
      (has_later a b number P lasts same
      (call_waits a b (ReadsPart number (at + have) k buf buf' a.opens) call call.answer.move_is)
      has)
      (read_gives a b number (at + have) k buf buf' same call)

  -- the front of the buffer is longer by what was read
  pub fill_more : (m : ℕ) (whole : List ℕ) → have ≤ length whole → k ≤ length buf'
      → OpenHas number (HasPart at (take have whole)) a
      → OpenHas number (HasPart at (take (have + k) (put_mid have m whole buf'))) b
  fill_more m whole long some has =
      let front = take have whole in
      has_as b number (λ bytes. HasPart at front bytes × Gave (at + have) k buf' bytes)
      (HasPart at (take (have + k) (put_mid have m whole buf')))
      (λ bytes both.
      let next =
      subst (λ (n : ℕ). HasPart (at + n) (take k buf') bytes)
      (sym (length-take-le have whole long)) both.1.stands in
      subst (λ (l : List ℕ). HasPart at l bytes) (sym (take_put have m k whole buf' long some))
      (part_more at front (take k buf') bytes both.0 next))
      (before_and_gave (HasPart at front) (part_lasting at front) has)

  -- the file ends there
  pub fill_short : (total : ℕ) → k ≡ 0 → have < total
      → OpenHas number (λ bytes. length bytes < at + total) b
  fill_short total none more =
      has_as b number (Gave (at + have) k buf') (λ bytes. length bytes < at + total)
      (λ bytes gave. let end = gave.ends none in omega (arith, end, more))
      (read_gives a b number (at + have) k buf buf' same call)
