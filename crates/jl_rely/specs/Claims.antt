-- What a call over a folder did, whatever others did meanwhile.
use Rattle.std.specs.Prelude.{◌≡◌, ◌++◌}
use Rattle.jl_folder.specs.declared.moves.Move.{Move}
use Rattle.jl_folder.specs.State.{State, IsTrace}
use Rattle.jl_folder.specs.Views.{FolderView, state, moved}
use Rattle.jl_rely.specs.Steps.{StepFact, AllSteps, Throughout, OwnMoves}

-- the same run's moves and others' stand behind those before, and each was allowed where those before it led
pub record GoesOn (old new : FolderView) : Type 0 where
  pub token : new.token ≡ old.token
  pub start : new.history.start ≡ old.history.start
  pub trace : new.history.trace ≡ old.history.trace ++ moved old new
  pub lawful : IsTrace (state old) (moved old new)

-- The call's own steps are of these kinds, whatever others do.
-- Begun where Pre held, each own step has Owed wherever all steps before it since the entry have Given,
-- and where all steps have Given the call ends where Post holds.
pub record Called (Given Owed : StepFact) (Kinds : Move → Type 0) (Pre Post : State → Type 0) (old new : FolderView) : Type 0 where
  pub went : GoesOn old new
  pub own : OwnMoves old.token Kinds (moved old new)
  pub owes : Pre (state old) → Throughout Given Owed old.token (state old) (moved old new)
  pub post : Pre (state old) → AllSteps Given (state old) (moved old new) → Post (state new)

-- the same of moves of these kinds alone
pub record Moves (Kinds : Move → Type 0) (old new : FolderView) : Type 0 where
  pub went : GoesOn old new
  pub own : OwnMoves old.token Kinds (moved old new)

-- nothing is claimed of the end
abbrev pub Anywhere : State → Type 0
Anywhere s = Unit {0}

-- no own step
abbrev pub Silent : Move → Type 0
Silent m = ⊥

-- any own step
abbrev pub AnyMove : Move → Type 0
AnyMove m = Unit {0}
