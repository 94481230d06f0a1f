-- Why a folder couldn't be removed.
use Rattle.std.specs.Prelude.{◌≡◌, ◌≢◌, ℕ, ◌⊎◌, List, [], ◌∷◌, ◌++◌, true, false}
use Rattle.jl_text.specs.Paths.{PathView}
use Rattle.jl_text.specs.Counts.{Rose}
use Rattle.jl_folder.specs.State.{State, Trace, AtSome, is_file, is_folder, run, now, since}
use Rattle.jl_folder.specs.Calls.{IsParent}
use Rattle.jl_tracker.specs.Stages.{FolderPoint}

-- each file that stood in the folder at first was away at some state of these moves
abbrev pub FilesWentAway : State → Trace → PathView → Type 0
FilesWentAway s moves p = (part : List ℕ) → part ≢ [] → is_file s (p ++ part ∷ []) ≡ true → AtSome s moves (λ x. is_file x (p ++ part ∷ []) ≡ false)

-- once each file that stood in it at first had been away, it was there, and still held something, or is the current folder or the topmost
pub record StillHolds (p : PathView) (old new : FolderPoint) : Type 0 where
  pub before : Trace
  pub later : Trace
  pub split : since old.history new.history ≡ before ++ later
  pub away : FilesWentAway (now old.history) before p
  pub there : is_folder (run (now old.history) before) p ≡ true
  pub kept : IsParent (run (now old.history) before) p

-- the path named no folder at some state; or the folder still held something; or the count of faults rose
abbrev pub HasCause : PathView → FolderPoint → FolderPoint → Type 0
HasCause p old new = AtSome (now old.history) (since old.history new.history) (λ s. is_folder s p ≡ false) ⊎ (StillHolds p old new ⊎ Rose old.faults new.faults)
