use Rattle.std.proofs.Common.{refl}
use Rattle.jl_evict.proofs.reducing.report.Goals as goal

pub returns-in-Cleared : goal.returns-in-Cleared
returns-in-Cleared g c = record { clears = c.in-Cleared.ensures; reports = (refl, c.held_bytes.ensures) }

pub returns-in-Fault : goal.returns-in-Fault
returns-in-Fault g c = record { clears = c.in-Fault.ensures; reports = tt }

pub returns-in-NoMemory : goal.returns-in-NoMemory
returns-in-NoMemory g c = record { clears = c.in-NoMemory.ensures; reports = tt }
