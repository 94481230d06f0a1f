-- What a run puts out at its end: its whole output, or a front of it, or nothing.
use Rattle.std.specs.Prelude.{◌≡◌, ◌++◌, Option, Some, None, T, ⊤}
use Rattle.jl_streams.specs.Streams.{WritesPrefix}
use Rattle.jl_cmd.specs.declared.ended.Ended.{Ended}
use Rattle.jl_cmd.specs.declared.ended.Ended.TheVariants.{Done, Failed, Refused, WriteFault}
use Rattle.jl_cmd.specs.Commands.{Command}
use Rattle.jl_cmd.specs.Course.{Course}
use Rattle.jl_cmd.specs.Endings.{status_of, last_text}
use Rattle.jl_cmd.specs.Met.{Met, IsMet, output_in}
use Rattle.jl_cmd.specs.Needs.{needs_of}
use Rattle.jl_cmd.specs.Premise.{Stated, Premise}
use Rattle.jl_cmd.specs.Statuses as status

-- the output of what was met was written whole, and this is its ending
pub record PutsWhole (s : Command) (w : Course) (met : Met) (e : Ended) : Type 0 where
  pub is_met : IsMet s w met
  pub status : (output_in s w met).status ≡ status_of e
  pub text : (output_in s w met).text ≡ last_text e
  pub written : w.out.told → w.out'.written ≡ w.out.written ++ (output_in s w met).bytes

-- a front of that output was written
pub record PutsFront (s : Command) (w : Course) (met : Met) : Type 0 where
  pub is_met : IsMet s w met
  pub front : w.out.told → WritesPrefix (output_in s w met).bytes w.out.written w.out'.written

-- The whole output at a value, at an error and at a refusal, which rest on less; and at each other ending a front of it. Of a command that is
-- buffered a front is written where the output failed, and then all was known; else it is empty, whatever was met.
abbrev pub Puts : Command → Course → Met → Ended → Type 0
Puts s w met Done = Premise (needs_of s) w → PutsWhole s w met Done
Puts s w met (Failed t) = Stated (needs_of s) w → PutsWhole s w met (Failed t)
Puts s w met (Refused t) = Stated (needs_of s) w → PutsWhole s w met (Refused t)
Puts s w met WriteFault = Premise (needs_of s) w → PutsFront s w met × (T (needs_of s).buffered → (output_in s w met).status ≡ status.done)
Puts s w met _ = Premise (needs_of s) w → (T (needs_of s).buffered → ⊥) → PutsFront s w met

-- the same of what words give
abbrev pub GivenPuts : Option Command → Course → Met → Ended → Type 0
GivenPuts None w met e = ⊤
GivenPuts (Some s) w met e = Puts s w met e

-- an ending at which a buffered command has written nothing
abbrev pub IsUnprinted : Ended → Type 0
IsUnprinted Done = ⊥
IsUnprinted WriteFault = ⊥
IsUnprinted _ = ⊤
