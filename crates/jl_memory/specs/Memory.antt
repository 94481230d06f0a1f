-- What a folder in memory tells.
use Rattle.std.specs.Prelude.{◌≡◌, ℕ, ◌≤◌, Some, IsSome, All, length}
use Rattle.jl_memory.specs.declared.memory.MemFolder.{MemFolder}
use Rattle.jl_folder.specs.declared.moves.OpenFile.{OpenFile}
use Rattle.jl_folder.specs.State.{State, History, IsHistory, IsForeign, node_at}
use Rattle.jl_folder.specs.Views.{FolderView}
use Rattle.jl_memory.specs.Tables.{state_of}
use Rattle.jl_memory.specs.Disk.{disk_state, IsConsistent}
use Rattle.jl_folder.specs.OpenTable.{opens_of}

-- the state after all moves
abbrev pub mem_state : MemFolder → State
mem_state m = disk_state m.disk

-- how it began, and all moves since
abbrev pub mem_history : MemFolder → History
mem_history m = record { start = state_of m.disk.start; trace = m.disk.trace.items }

-- what a folder in memory keeps, so that what it tells is true
pub record IsTold (m : MemFolder) : Type 0 where
  pub disk : IsConsistent m.disk
  pub opens : (number : ℕ) (file : OpenFile) → opens_of m.opens.items number ≡ Some file → IsSome (node_at (mem_state m) file.node)
  pub foreign : All (λ o. IsForeign m.token o.1.items) m.others.items
  pub begun : m.begun ≤ length m.disk.trace.items

-- what contracts see of it
abbrev pub folder_view : MemFolder → FolderView
folder_view m = record { told = IsTold m; token = m.token; history = mem_history m; opens = opens_of m.opens.items; faults = m.faults }

-- what it tells is a history
pub told_history : (m : MemFolder) → IsTold m → IsHistory (mem_history m) (opens_of m.opens.items)
told_history m told = record { start = told.disk.start; trace = told.disk.trace; nodes = told.opens }
