-- What a clearing promises to its caller.
use Rattle.std.specs.Prelude.{◌≡◌}
use Rattle.jl_text.specs.Paths.{PathView}
use Rattle.jl_folder.specs.Views.{FolderView, state, moved}
use Rattle.jl_rely.specs.Steps.{IsLone}
use Rattle.jl_rely.specs.Claims.{Called, Anywhere, AnyMove}
use Rattle.jl_protocol.specs.Whole.{CodeAnswers}
use Rattle.jl_protocol.specs.Proper.{IsProper, IsLawful}
use Rattle.jl_protocol.specs.Tidy.{IsTidy, IsSound}
use Rattle.jl_clear.specs.declared.removing.Clear.{Clear}
use Rattle.jl_clear.specs.declared.removing.Clear.TheVariants.{Cleared}
use Rattle.jl_clear.specs.Taking.{IsTaking, WentAway, IsThinned, IsTakenAway}

-- These paths are cleared by moves that are proper in every state, whatever others do.
-- Where it is answered that they are, each name of the store among them was away at some state of the call;
-- and where no other moved besides, they are thinned from any state, and from a tidy one all of them are gone, and nothing else.
pub record ClearsPaths (root : PathView) (Of : PathView → Type 0) (answer : Clear) (old new : FolderView) : Type 0 where
  pub called : Called (IsProper root) (IsProper root) (IsTaking root Of) Anywhere Anywhere old new
  pub lawful : (answers : CodeAnswers) → Called (IsLawful root answers) (IsLawful root answers) AnyMove (IsSound root answers) (IsSound root answers) old new
  pub went : answer ≡ Cleared → WentAway root Of old new
  pub alone : answer ≡ Cleared → IsLone old.token (moved old new) → IsThinned root Of (state old) (state new)
  pub tidy : answer ≡ Cleared → IsLone old.token (moved old new) → IsTidy root (state old) → IsTakenAway Of (state old) (state new)
