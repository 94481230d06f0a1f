-- What a run comes to, and how often it calls a function.
use Rattle.std.specs.Prelude.{◌≡◌, ◌⊎◌, ℕ, [], ◌++◌}
use Rattle.jl_text.specs.Counts.{Rose}
use Rattle.jl_streams.specs.Streams.{WritesPrefix}
use Rattle.jl_streams.specs.Views.{SinkView}
use Rattle.jl_value.specs.Library.{next_count}
use Rattle.jl_cmd.specs.declared.computed.Computed.{Computed}
use Rattle.jl_cmd.specs.declared.computed.Computed.TheVariants as computed
use Rattle.jl_cmd.specs.declared.ended.Ended.{Ended}
use Rattle.jl_cmd.specs.declared.ended.Ended.TheVariants.{Done, Failed, Usage, Refused, ReadFault, WriteFault, NoMemory, NoModule, FolderFault}
use Rattle.jl_cmd.specs.Output.{Output}
use Rattle.jl_cmd.specs.Endings.{WritesNothing}
use Rattle.jl_cmd.specs.Statuses as status

-- the output that was computed; a value rests on the cache folder
abbrev pub Computes : Output → (trusted : Type 0) → Computed → Type 0
Computes o trusted (computed.Printed t) = trusted → o ≡ record { bytes = t; status = status.done; text = [] }
Computes o trusted (computed.Failed t) = o ≡ record { bytes = []; status = status.task_error; text = t }
Computes o trusted (computed.Refused t) = o ≡ record { bytes = []; status = status.refused; text = t }
Computes o trusted computed.NoMemory = Unit {0}

-- what was computed was written: the bytes that are to be printed, or a front of them; nothing of anything else
abbrev pub WritesComputed : Computed → Ended → (out out' : SinkView) → Type 0
WritesComputed (computed.Printed t) Done out out' = out.told → out'.written ≡ out.written ++ t
WritesComputed (computed.Printed t) WriteFault out out' = Rose out.faults out'.faults × (out.told → WritesPrefix t out.written out'.written)
WritesComputed (computed.Printed t) (Failed u) out out' = ⊥
WritesComputed (computed.Printed t) ReadFault out out' = ⊥
WritesComputed (computed.Printed t) Usage out out' = ⊥
WritesComputed (computed.Printed t) (Refused u) out out' = ⊥
WritesComputed (computed.Printed t) NoMemory out out' = ⊥
WritesComputed (computed.Printed t) NoModule out out' = ⊥
WritesComputed (computed.Printed t) FolderFault out out' = ⊥
WritesComputed (computed.Failed t) e out out' = (e ≡ Failed t) × WritesNothing out out'
WritesComputed (computed.Refused t) e out out' = (e ≡ Refused t) × WritesNothing out out'
WritesComputed computed.NoMemory e out out' = (e ≡ NoMemory) × WritesNothing out out'

-- the same, unless memory was wanting before anything was written
abbrev pub WritesWarned : Computed → Ended → (out out' : SinkView) → Type 0
WritesWarned c e out out' = WritesComputed c e out out' ⊎ ((e ≡ NoMemory) × WritesNothing out out')

-- the library's count: it rises by one where the function was called, and not where its value was found
abbrev pub Counts : Computed → ℕ → ℕ → Type 0
Counts (computed.Printed t) old new = (new ≡ old) ⊎ (new ≡ next_count old)
Counts (computed.Failed t) old new = new ≡ next_count old
Counts (computed.Refused t) old new = new ≡ old
Counts computed.NoMemory old new = (new ≡ old) ⊎ (new ≡ next_count old)

-- nothing was called
abbrev pub IsRefused : Computed → Type 0
IsRefused (computed.Printed t) = ⊥
IsRefused (computed.Failed t) = ⊥
IsRefused (computed.Refused t) = Unit {0}
IsRefused computed.NoMemory = Unit {0}

-- something was refused
abbrev pub IsRefusal : Computed → Type 0
IsRefusal (computed.Printed t) = ⊥
IsRefusal (computed.Failed t) = ⊥
IsRefusal (computed.Refused t) = Unit {0}
IsRefusal computed.NoMemory = ⊥

-- it is a value's, or memory was wanting
abbrev pub IsPrinted : Computed → Type 0
IsPrinted (computed.Printed t) = Unit {0}
IsPrinted (computed.Failed t) = ⊥
IsPrinted (computed.Refused t) = ⊥
IsPrinted computed.NoMemory = Unit {0}

-- it is an error's, or memory was wanting
abbrev pub IsFailed : Computed → Type 0
IsFailed (computed.Printed t) = ⊥
IsFailed (computed.Failed t) = Unit {0}
IsFailed (computed.Refused t) = ⊥
IsFailed computed.NoMemory = Unit {0}

-- the library's count at an ending
abbrev pub Calls : Ended → ℕ → ℕ → Type 0
Calls Done old new = (new ≡ old) ⊎ (new ≡ next_count old)
Calls (Failed t) old new = new ≡ next_count old
Calls WriteFault old new = (new ≡ old) ⊎ (new ≡ next_count old)
Calls Usage old new = new ≡ old
Calls ReadFault old new = new ≡ old
Calls (Refused t) old new = new ≡ old
Calls NoModule old new = new ≡ old
Calls FolderFault old new = new ≡ old
Calls NoMemory old new = (new ≡ old) ⊎ (new ≡ next_count old)
