-- What a block of bytes gets from a source.
use Rattle.std.specs.Prelude.{◌≡◌, ℕ, ◌≤◌, List, [], ◌++◌, Result, Ok, Err, length, take}
use Rattle.std.specs.declared.alloc.AllocError.{AllocError}
use Rattle.jl_streams.specs.declared.source.Got.{Got}
use Rattle.jl_streams.specs.declared.source.Got.TheVariants as got
use Rattle.jl_streams.specs.Views.{SourceView}

-- at least one byte and at most so many stand at the front of the buffer, and were left where that is told
abbrev pub FillsFront : Got → ℕ → List ℕ → SourceView → SourceView → Type 0
FillsFront (got.Bytes k) most buf' before after = (1 ≤ k) × (k ≤ most) × (k ≤ length buf') × (before.told → before.left ≡ take k buf' ++ after.left)
FillsFront got.End most buf' before after = before.told → (before.left ≡ []) × (after.left ≡ [])
FillsFront got.Failed most buf' before after = before.told → after.left ≡ before.left

-- the block holds at least one byte and at most so many, which were left where that is told; or it holds none
abbrev pub Fills : Result Got AllocError → ℕ → List ℕ → SourceView → SourceView → Type 0
Fills (Ok (got.Bytes k)) most bytes before after = (1 ≤ length bytes) × (length bytes ≤ most) × (before.told → before.left ≡ bytes ++ after.left)
Fills (Ok got.End) most bytes before after = (bytes ≡ []) × (before.told → (before.left ≡ []) × (after.left ≡ []))
Fills (Ok got.Failed) most bytes before after = (bytes ≡ []) × (before.told → after.left ≡ before.left)
Fills (Err e) most bytes before after = (bytes ≡ []) × (after.left ≡ before.left)
