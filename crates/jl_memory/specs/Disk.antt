-- A folder in memory: what its data stands for, and which moves of others it makes.
use Rattle.std.specs.Prelude.{◌≡◌, ℕ, zero, suc, ◌⊎◌, ◌++◌, [], ◌∷◌}
use Rattle.jl_text.specs.Counts.{counted}
use Rattle.jl_memory.specs.declared.disk.Disk.{Disk}
use Rattle.jl_folder.specs.State.{State, Trace, run, after, IsTrace, IsState, Allowed}
use Rattle.jl_memory.specs.Tables.{Agrees, state_of}

-- the state after all moves
abbrev pub disk_state : Disk → State
disk_state d = run (state_of d.start) d.trace.items

-- the tables answer as that state, and each move was allowed
pub record IsConsistent (d : Disk) : Type 0 where
  pub agrees : Agrees (disk_state d) d.places.items d.nodes.items
  pub start : IsState (state_of d.start)
  pub trace : IsTrace (state_of d.start) d.trace.items

-- of these moves those were made, in order, that are allowed at their turn, but for `lost` of them, for which there was no memory
abbrev pub LetsMove : ℕ → State → Trace → Trace → Type 0
LetsMove lost s [] made = (made ≡ []) × (lost ≡ 0)
LetsMove lost s (e ∷ moves) made = (Allowed s e.1 × (rest : Trace) × (made ≡ e ∷ rest) × LetsMove lost (after s e) moves rest) ⊎ (((Allowed s e.1 → ⊥) × LetsMove lost s moves made) ⊎ (Allowed s e.1 × (fewer : ℕ) × (lost ≡ suc fewer) × LetsMove fewer s moves made))

-- so many more, up to the last value of a count
abbrev pub counted_times : ℕ → ℕ → ℕ
counted_times zero n = n
counted_times (suc k) n = counted_times k (counted n)

-- those of the moves were made that may be made, and those for which there was no memory were counted
pub record LetMoves (old new : Disk) (moves : Trace) : Type 0 where
  pub made : Trace
  pub lost : ℕ
  pub trace : new.trace.items ≡ old.trace.items ++ made
  pub counts : new.unmade ≡ counted_times lost old.unmade
  pub lets : LetsMove lost (disk_state old) moves made
