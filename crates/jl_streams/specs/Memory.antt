-- What the forms in memory stand for, and what their calls do.
use Rattle.std.specs.Prelude.{⊤, ◌≡◌, ℕ, ◌-◌, List, ◌++◌, Bool, cond, min, length, take, drop, nat_eq}
use Rattle.std.specs.List.{list_any}
use Rattle.jl_text.specs.Counts.{counted}
use Rattle.jl_streams.specs.Views.{SourceView, SinkView, HostView}
use Rattle.jl_streams.specs.declared.source.Got.{Got}
use Rattle.jl_streams.specs.declared.source.Got.TheVariants as got
use Rattle.jl_streams.specs.declared.sink.Put.{Put}
use Rattle.jl_streams.specs.declared.sink.Put.TheVariants as put

-- which calls fail, by their numbers from 0; how many calls and faults there were
pub record CallsView : Type 0 where
  pub failing : List ℕ
  pub made : ℕ
  pub faults : ℕ

-- whether the next call is to fail
abbrev pub is_to_fail : CallsView → Bool
is_to_fail c = list_any (λ n. nat_eq n c.made) c.failing

-- one more fault
abbrev pub failed : CallsView → CallsView
failed c = record c { faults = counted c.faults }

-- one more call, which is a fault where it is to fail
abbrev pub begun : CallsView → CallsView
begun c = record c { made = counted c.made; faults = cond (is_to_fail c) (counted c.faults) c.faults }

-- a source in memory: the bytes that are left, and how many a read gives at most
pub record MemSourceView : Type 0 where
  pub left : List ℕ
  pub piece : ℕ
  pub calls : CallsView

-- how many bytes a read gives into a buffer of this length
abbrev pub share : MemSourceView → ℕ → ℕ
share s room = min s.piece (min room (length s.left))

-- a count of bytes, or the end where there are none
abbrev pub got_of : ℕ → Got
got_of k = cond (nat_eq k 0) got.End (got.Bytes k)

-- a read that is to fail: nothing else changes
abbrev pub FailsRead : MemSourceView → MemSourceView → List ℕ → List ℕ → Got → Type 0
FailsRead s s' buf buf' answer = (answer ≡ got.Failed) × (buf' ≡ buf) × (s' ≡ record s { calls = begun s.calls })

-- a read that gives the front of what is left, k bytes
abbrev pub GivesFront : MemSourceView → MemSourceView → List ℕ → List ℕ → Got → ℕ → Type 0
GivesFront s s' buf buf' answer k = (answer ≡ got_of k) × (buf' ≡ take k s.left ++ drop k buf) × (s' ≡ record s { left = drop k s.left; calls = begun s.calls })

-- a sink in memory: what was written, and how many bytes still fit
pub record MemSinkView : Type 0 where
  pub written : List ℕ
  pub room : ℕ
  pub calls : CallsView

-- a write that is to fail: nothing is written
abbrev pub FailsWrite : MemSinkView → MemSinkView → Put → Type 0
FailsWrite s s' answer = (answer ≡ put.Failed) × (s' ≡ record s { calls = begun s.calls })

-- a write that finds no room: it is a fault more
abbrev pub FindsNoRoom : MemSinkView → MemSinkView → Put → Type 0
FindsNoRoom s s' answer = (answer ≡ put.Failed) × (s' ≡ record s { calls = failed (begun s.calls) })

-- a write that takes the front of a piece, k bytes
abbrev pub TakesFront : MemSinkView → MemSinkView → List ℕ → Put → ℕ → Type 0
TakesFront s s' bytes answer k = (answer ≡ put.Took k) × (s' ≡ record { written = s.written ++ take k bytes; room = s.room - k; calls = begun s.calls })

-- a host in memory: the moments that are left, how many processors, and the token
pub record MemHostView : Type 0 where
  pub moments : List ℕ
  pub processors : ℕ
  pub token : List ℕ

-- what contracts see of them: each tells all
abbrev pub source_view : MemSourceView → SourceView
source_view s = record { told = ⊤; left = s.left; faults = s.calls.faults }

abbrev pub sink_view : MemSinkView → SinkView
sink_view s = record { told = ⊤; written = s.written; faults = s.calls.faults }

abbrev pub host_view : MemHostView → HostView
host_view h = record { told = ⊤; token = h.token; processors = h.processors; moments = h.moments }
