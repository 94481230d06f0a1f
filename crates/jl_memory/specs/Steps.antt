-- The steps of a call of a folder in memory: others move, and then the run makes at most one move. What these promise is for the calls alone.
use Rattle.std.specs.Prelude.{◌≡◌, ℕ, List, [], ◌∷◌, ◌++◌, Bool, true, not, Option, nat_eq, Some}
use Rattle.std.specs.List.{filter, flat_map}
use Rattle.jl_text.specs.Counts.{Faults}
use Rattle.jl_memory.specs.declared.memory.MemFolder.{MemFolder}
use Rattle.jl_folder.specs.declared.moves.Move.{Move}
use Rattle.jl_folder.specs.declared.moves.Move.TheVariants.{Append}
use Rattle.jl_folder.specs.declared.moves.OpenFile.{OpenFile}
use Rattle.jl_folder.specs.Calls.{own_event}
use Rattle.jl_folder.specs.State.{State, Trace, IsTrace, IsForeign, Allowed}
use Rattle.jl_folder.specs.OpenTable.{opens_of}
use Rattle.jl_memory.specs.Disk.{LetsMove, LetMoves, counted_times}
use Rattle.jl_memory.specs.Memory.{IsTold, mem_state}
use Rattle.jl_memory.specs.Scripts.{moves_before, PlaysOn, SameScript}

-- others made those of their moves that may be made, and nothing else was
pub record Interlude (old new : MemFolder) : Type 0 where
  pub others : Trace
  pub lost : ℕ
  pub trace : new.disk.trace.items ≡ old.disk.trace.items ++ others
  pub start : new.disk.start ≡ old.disk.start
  pub counts : new.disk.unmade ≡ counted_times lost old.disk.unmade
  pub lets : LetsMove lost (mem_state old) (moves_before old) others
  pub lawful : IsTrace (mem_state old) others
  pub foreign : IsForeign old.token others

-- of the moves of others before a call some are taken, of which those were made that may be made; the rest are still in the script
pub record SoFar (old new : MemFolder) : Type 0 where
  pub taken : Trace
  pub rest : moves_before old ≡ taken ++ flat_map (λ o. o.1.items) (filter (λ o. nat_eq o.0 old.calls) new.others.items)
  pub start : new.disk.start ≡ old.disk.start
  pub moved : LetMoves old.disk new.disk taken

-- before a call others move, and nothing else changes but the script
pub record LetsOthers (old new : MemFolder) : Type 0 where
  pub told : IsTold old → IsTold new
  pub moved : IsTold old → Interlude old new
  pub token : new.token ≡ old.token
  pub opens : new.opens.items ≡ old.opens.items
  pub faults : new.faults ≡ old.faults
  pub calls : new.calls ≡ old.calls
  pub failing : new.failing ≡ old.failing
  pub stop : new.stop ≡ old.stop
  pub named : new.named ≡ old.named
  pub begun : new.begun ≡ old.begun
  pub others : new.others.items ≡ filter (λ o. not (nat_eq o.0 old.calls)) old.others.items

-- a call began: others moved, its number is used up, and a fault is counted where it failed
pub record Begins (failed : Bool) (old new : MemFolder) : Type 0 where
  pub told : IsTold old → IsTold new
  pub moved : IsTold old → Interlude old new
  pub token : new.token ≡ old.token
  pub opens : new.opens.items ≡ old.opens.items
  pub faults : Faults old.faults new.faults (failed ≡ true)
  pub script : PlaysOn old new

-- at most one own move, and what it answers of the state before
pub record MovesOnce (old new : MemFolder) (Answer : State → Option Move → Type 0) : Type 0 where
  pub own : Option Move
  pub trace : new.disk.trace.items ≡ old.disk.trace.items ++ own_event old.token own
  pub lawful : IsTrace (mem_state old) (own_event old.token own)
  pub answer : Answer (mem_state old) own

-- what a call does once it has begun
pub record Acts (Fails : Type 0) (Answer : State → Option Move → Type 0) (old new : MemFolder) : Type 0 where
  pub told : IsTold old → IsTold new
  pub moved : IsTold old → MovesOnce old new Answer
  pub start : new.disk.start ≡ old.disk.start
  pub unmade : new.disk.unmade ≡ old.disk.unmade
  pub token : new.token ≡ old.token
  pub faults : Faults old.faults new.faults Fails
  pub script : SameScript old new

-- nothing that is told changes but the trace
pub record ChangesTraceOnly (old new : MemFolder) : Type 0 where
  pub start : new.disk.start ≡ old.disk.start
  pub unmade : new.disk.unmade ≡ old.disk.unmade
  pub token : new.token ≡ old.token
  pub opens : new.opens.items ≡ old.opens.items
  pub faults : new.faults ≡ old.faults
  pub script : SameScript old new

-- the run made this move
pub record MakesMove (change : Move) (old new : MemFolder) : Type 0 where
  pub told : IsTold old → Allowed (mem_state old) change → IsTold new
  pub trace : new.disk.trace.items ≡ old.disk.trace.items ++ (old.token, change) ∷ []
  pub keeps : ChangesTraceOnly old new

-- the run made no move, for want of memory
pub record Stays (old new : MemFolder) : Type 0 where
  pub told : IsTold old → IsTold new
  pub trace : new.disk.trace.items ≡ old.disk.trace.items
  pub keeps : ChangesTraceOnly old new

-- the run added this piece to the node of a number
pub record AddsToNode (number : ℕ) (piece : List ℕ) (old new : MemFolder) : Type 0 where
  pub file : OpenFile
  pub was_open : opens_of old.opens.items number ≡ Some file
  pub made : MakesMove (Append file.node piece) old new
