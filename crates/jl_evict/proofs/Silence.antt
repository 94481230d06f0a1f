-- Calls that make no own move.
use Rattle.std.proofs.Common.{◌≡◌, ℕ, List, [], ◌∷◌, refl}
use Rattle.jl_folder.specs.State.{Trace, IsForeign}
use Rattle.jl_folder.specs.Views.{FolderView, moved}
use Rattle.jl_folder.specs.Calls.{Waits}
use Rattle.jl_rely.specs.Claims.{Moves, Silent}
use Rattle.jl_rely.specs.Steps.{OwnMoves, IsLone}

no_steps : (token : List ℕ) (xs : Trace) → OwnMoves token Silent xs → IsLone token xs → xs ≡ []
unfolding OwnMoves IsLone
no_steps token [] own lone = refl
no_steps token (e ∷ es) own lone = absurd (own.0 lone.0)

-- alone, nothing moves
pub still : (old new : FolderView) → Moves Silent old new → IsLone old.token (moved old new) → moved old new ≡ []
still old new m lone = no_steps old.token (moved old new) m.own lone

all_foreign : (token : List ℕ) (xs : Trace) → OwnMoves token Silent xs → IsForeign token xs
unfolding OwnMoves
all_foreign token [] own = tt
all_foreign token (e ∷ es) own = (own.0, all_foreign token es own.1)

-- no own move is a wait
pub silent_waits : (old new : FolderView) → Moves Silent old new → Waits old new
silent_waits old new m = record { others = moved old new; foreign = all_foreign old.token (moved old new) m.own; start = m.went.start; trace = m.went.trace; lawful = m.went.lawful }
