-- Calls during which no other moved.
use Rattle.std.specs.Prelude.{◌≡◌, Option}
use Rattle.jl_folder.specs.declared.moves.Move.{Move}
use Rattle.jl_folder.specs.State.{State, IsTrace, run}
use Rattle.jl_folder.specs.Views.{FolderView, state, moved}
use Rattle.jl_folder.specs.Calls.{own_event}
use Rattle.jl_rely.specs.Steps.{IsLone}

-- where no other moved in the call, begun where Pre held it ended where Post holds
abbrev pub Alone : (Pre Post : State → Type 0) → FolderView → FolderView → Type 0
Alone Pre Post old new = IsLone old.token (moved old new) → Pre (state old) → Post (state new)

-- an own move or none, made in the state at the entry, and nothing else
pub record MovesAlone (old new : FolderView) (Answer : State → Option Move → Type 0) : Type 0 where
  pub own : Option Move
  pub answer : Answer (state old) own
  pub moves : moved old new ≡ own_event old.token own
  pub lawful : IsTrace (state old) (own_event old.token own)
  pub after : state new ≡ run (state old) (own_event old.token own)
