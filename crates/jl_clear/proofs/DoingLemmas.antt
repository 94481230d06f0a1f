-- Parts of a call, one after another.
use Rattle.std.proofs.Common.{◌≡◌, ◌⊎◌, ℕ, ◌≤◌, Option, None, Some, arith}
use Rattle.jl_text.specs.Counts.{Rose}
use Rattle.jl_folder.specs.declared.moves.Move.{Move}
use Rattle.jl_folder.specs.State.{State}
use Rattle.jl_folder.specs.Views.{FolderView, FolderAnswers}
use Rattle.jl_folder.specs.Calls.{Call, Waits}
use Rattle.jl_folder.proofs.Frames.{answers_keeps, keeps_none, keeps_trans}
use Rattle.jl_rely.specs.Claims.{GoesOn}
use Rattle.jl_rely.proofs.Moving.{moves_none, moves_then, moves_as, moves_waits, moves_call}
use Rattle.jl_clear.specs.Doing.{Does}

pub rose_later : (a b c : ℕ) → Rose a b → b ≤ c → Rose a c
rose_later a b c r le = omega (arith, r, le)

pub later_rose : (a b c : ℕ) → a ≤ b → Rose b c → Rose a c
later_rose a b c le r = omega (arith, r, le)

module _ (Kinds : Move → Type 0) where
  pub does_none : (v : FolderView) → Does Kinds v v
  does_none v = record { frame = keeps_none v; moves = λ t. moves_none Kinds v }

  pub does_then : (old mid new : FolderView) → Does Kinds old mid → Does Kinds mid new → Does Kinds old new
  does_then old mid new a b = record {
    frame = keeps_trans old mid new a.frame b.frame;
    moves = λ t. moves_then Kinds old mid new (a.moves t) (b.moves (a.frame.told t));
  }

  pub does_as : (Kinds' : Move → Type 0) → ((m : Move) → Kinds m → Kinds' m) → (old new : FolderView) → Does Kinds old new → Does Kinds' old new
  does_as Kinds' f old new a = record { frame = a.frame; moves = λ t. moves_as Kinds Kinds' f old new (a.moves t) }

  -- it went on
  pub goes_does : (old new : FolderView) → Does Kinds old new → old.told → GoesOn old new
  goes_does old new a t = (a.moves t).went

  -- one call of the folder
  pub does_call : {Fails : Type 0} (old new : FolderView) (Answer : State → Option Move → Type 0) → ((s : State) (own : Option Move) → Answer s own → (own ≡ None) ⊎ ((m : Move) × (own ≡ Some m) × Kinds m)) → FolderAnswers Fails old new → (old.told → Call old new Answer) → Does Kinds old new
  does_call old new Answer kinds frame call = record { frame = answers_keeps old new frame; moves = λ t. moves_call Kinds old new Answer kinds frame.token (call t) }

  -- a call that makes no own move
  pub does_waits : {Fails : Type 0} (old new : FolderView) → FolderAnswers Fails old new → (old.told → Waits old new) → Does Kinds old new
  does_waits old new frame waits = record { frame = answers_keeps old new frame; moves = λ t. moves_waits Kinds old new frame.token (waits t) }
