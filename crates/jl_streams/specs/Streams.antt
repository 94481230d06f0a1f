-- What reads and writes do.
use Rattle.std.specs.Prelude.{◌≡◌, ℕ, ◌<◌, ◌≤◌, List, [], ◌++◌, length, take, drop}
use Rattle.jl_streams.specs.declared.source.Got.{Got}
use Rattle.jl_streams.specs.declared.source.Got.TheVariants as got
use Rattle.jl_streams.specs.declared.sink.Put.{Put}
use Rattle.jl_streams.specs.declared.sink.Put.TheVariants as put
use Rattle.jl_streams.specs.declared.sink.WroteAll.{WroteAll}
use Rattle.jl_streams.specs.declared.sink.WroteAll.TheVariants as wrote_all

-- at least one byte, and no more than the buffer holds; of every source
abbrev pub GivesSome : ℕ → Got → Type 0
GivesSome room (got.Bytes k) = (1 ≤ k) × (k ≤ room)
GivesSome room got.End = Unit {0}
GivesSome room got.Failed = Unit {0}

-- the first k bytes that were left stand at the front of the buffer, whose rest is as before
pub record GivesBytes (k : ℕ) (buf buf' left left' : List ℕ) : Type 0 where
  pub within : k ≤ length left
  pub front : buf' ≡ take k left ++ drop k buf
  pub rest : left' ≡ drop k left

-- what a read does to the buffer and to the bytes that are left
abbrev pub Reads : Got → List ℕ → List ℕ → List ℕ → List ℕ → Type 0
Reads (got.Bytes k) buf buf' left left' = GivesBytes k buf buf' left left'
Reads got.End buf buf' left left' = (left ≡ []) × (left' ≡ []) × (buf' ≡ buf)
Reads got.Failed buf buf' left left' = left' ≡ left

-- no more bytes than the piece has, and some of a piece that isn't empty; of every sink
abbrev pub TakesSome : ℕ → Put → Type 0
TakesSome n (put.Took k) = (k ≤ n) × (0 < n → 1 ≤ k)
TakesSome n put.Failed = Unit {0}

-- the first bytes of the piece were written behind the others, however many
pub record WritesPrefix (bytes written written' : List ℕ) : Type 0 where
  pub count : ℕ
  pub within : count ≤ length bytes
  pub gains : written' ≡ written ++ take count bytes

-- what a write of a piece does to the bytes that were written
abbrev pub PutsPiece : Put → List ℕ → List ℕ → List ℕ → Type 0
PutsPiece (put.Took k) bytes written written' = written' ≡ written ++ take k bytes
PutsPiece put.Failed bytes written written' = WritesPrefix bytes written written'

-- all bytes were written, or a prefix at a fault
abbrev pub WritesAll : WroteAll → List ℕ → List ℕ → List ℕ → Type 0
WritesAll wrote_all.Done bytes written written' = written' ≡ written ++ bytes
WritesAll wrote_all.Fault bytes written written' = WritesPrefix bytes written written'
