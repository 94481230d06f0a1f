-- What contracts see of a folder, as one record, and what every call leaves of it.
use Rattle.std.specs.Prelude.{◌≡◌, ℕ, ◌≤◌, List}
use Rattle.jl_text.specs.Counts.{Faults}
use Rattle.jl_folder.specs.State.{State, Trace, Opens, History, now, since}

-- a folder: whether it tells its history, the token of the run that makes the calls, how it began and all moves since,
-- the open numbers, which every folder tells, and how many calls failed
pub record FolderView : Type 1 where
  pub told : Type 0
  pub token : List ℕ
  pub history : History
  pub opens : Opens
  pub faults : ℕ

-- the state as it is seen
abbrev pub state : FolderView → State
state v = now v.history

-- the moves that were made from one view to a later one
abbrev pub moved : FolderView → FolderView → Trace
moved old new = since old.history new.history

-- a call that opens or closes: who told goes on telling, the token stays, and the count of faults rose exactly where it failed
pub record FolderTurns (Fails : Type 0) (old new : FolderView) : Type 0 where
  pub told : old.told → new.told
  pub token : new.token ≡ old.token
  pub faults : Faults old.faults new.faults Fails

-- any other call: the open numbers stay as well
pub record FolderAnswers (Fails : Type 0) (old new : FolderView) : Type 0 where
  pub told : old.told → new.told
  pub token : new.token ≡ old.token
  pub opens : new.opens ≡ old.opens
  pub faults : Faults old.faults new.faults Fails

-- any number of calls after which the same numbers are open: who told goes on telling, the token stays, and the count of faults never falls
pub record FolderKeeps (old new : FolderView) : Type 0 where
  pub told : old.told → new.told
  pub token : new.token ≡ old.token
  pub opens : new.opens ≡ old.opens
  pub later : old.faults ≤ new.faults
