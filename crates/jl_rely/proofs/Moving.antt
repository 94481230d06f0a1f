-- Calls of which no more is told than the kinds of their own moves.
use Rattle.std.proofs.Common.{◌≡◌, ◌⊎◌, inl, inr, ℕ, List, [], ◌∷◌, ◌++◌, Option, None, Some, refl, sym, subst, ◌∙◌}
use Rattle.jl_folder.specs.declared.moves.Move.{Move}
use Rattle.jl_folder.specs.State.{State, Trace, run, after}
use Rattle.jl_folder.specs.Views.{FolderView, state, moved}
use Rattle.jl_folder.specs.Calls.{Call, Waits, own_event}
use Rattle.jl_rely.specs.Steps.{StepFact, OwnMoves, Throughout}
use Rattle.jl_rely.specs.Claims.{Called, Moves, Anywhere}
use Rattle.jl_rely.proofs.Traces.{OwnMoves-append, OwnMoves-weaken, foreign_own}
use Rattle.jl_rely.proofs.Since.{Went, since_went, went_none, went_on, went_since, goes_on}
use Rattle.jl_rely.proofs.Composed.{went_call, went_waits}

-- by moves that are told
pub moves_by : (Kinds : Move → Type 0) (old new : FolderView) (xs : Trace) → new.token ≡ old.token → Went old new xs → OwnMoves old.token Kinds xs → Moves Kinds old new
moves_by Kinds old new xs same went own = record { went = goes_on old new xs same went; own = subst (OwnMoves old.token Kinds) (sym (since_went old new xs went)) own }

pub moves_none : (Kinds : Move → Type 0) (v : FolderView) → Moves Kinds v v
unfolding OwnMoves
moves_none Kinds v = moves_by Kinds v v [] refl (went_none v) tt

-- one after the other
pub moves_then : (Kinds : Move → Type 0) (old mid new : FolderView) → Moves Kinds old mid → Moves Kinds mid new → Moves Kinds old new
moves_then Kinds old mid new a b =
    moves_by Kinds old new (moved old mid ++ moved mid new) (b.went.token ∙ a.went.token)
    (went_on old mid new (moved old mid) (moved mid new) (went_since old mid a.went) (went_since mid new b.went))
    (OwnMoves-append old.token Kinds (moved old mid) (moved mid new) a.own (subst (λ (t : List ℕ). OwnMoves t Kinds (moved mid new)) a.went.token b.own))

pub moves_as : (Kinds Kinds' : Move → Type 0) → ((m : Move) → Kinds m → Kinds' m) → (old new : FolderView) → Moves Kinds old new → Moves Kinds' old new
moves_as Kinds Kinds' f old new a = record { went = a.went; own = OwnMoves-weaken old.token Kinds Kinds' f (moved old new) a.own }

-- others moved, and nobody else
pub moves_waits : (Kinds : Move → Type 0) (old new : FolderView) → new.token ≡ old.token → Waits old new → Moves Kinds old new
moves_waits Kinds old new same waits = moves_by Kinds old new waits.others same (went_waits old new waits) (foreign_own old.token Kinds waits.others waits.foreign)

-- one call of the folder, whose own move is of these kinds or none
pub moves_call : (Kinds : Move → Type 0) (old new : FolderView) (Answer : State → Option Move → Type 0) → ((s : State) (own : Option Move) → Answer s own → (own ≡ None) ⊎ ((m : Move) × (own ≡ Some m) × Kinds m)) → new.token ≡ old.token → Call old new Answer → Moves Kinds old new
unfolding OwnMoves
moves_call Kinds old new Answer kinds same call =
    moves_by Kinds old new (call.others ++ own_event old.token call.own) same (went_call old new Answer call)
    (OwnMoves-append old.token Kinds call.others (own_event old.token call.own) (foreign_own old.token Kinds call.others call.foreign) (own_is call.own (kinds (run (state old) call.others) call.own call.answer)))
  where
    own_is : (own : Option Move) → (own ≡ None) ⊎ ((m : Move) × (own ≡ Some m) × Kinds m) → OwnMoves old.token Kinds (own_event old.token own)
    own_is own (inl none) = subst (λ o. OwnMoves old.token Kinds (own_event old.token o)) (sym none) tt
    own_is own (inr just) = subst (λ o. OwnMoves old.token Kinds (own_event old.token o)) (sym just.1) (λ mine. just.2, tt)

-- where the kinds say all that is owed
owes_own : (Given Owed : StepFact) (token : List ℕ) (Kinds : Move → Type 0) → ((s : State) (m : Move) → Kinds m → Owed token s m) → (s : State) (xs : Trace) → OwnMoves token Kinds xs → Throughout Given Owed token s xs
unfolding OwnMoves Throughout
owes_own Given Owed token Kinds f s [] own = tt
owes_own Given Owed token Kinds f s (e ∷ es) own = (λ mine. f s e.1 (own.0 mine), λ given. owes_own Given Owed token Kinds f (after s e) es own.1)

pub moves_called : (Given Owed : StepFact) (Kinds : Move → Type 0) (Pre : State → Type 0) (old new : FolderView) → ((s : State) (m : Move) → Kinds m → Owed old.token s m) → Moves Kinds old new → Called Given Owed Kinds Pre Anywhere old new
moves_called Given Owed Kinds Pre old new f m = record {
  went = m.went;
  own = m.own;
  owes = λ pre. owes_own Given Owed old.token Kinds f (state old) (moved old new) m.own;
  post = λ pre all. tt;
}

-- what else is told of a call's own moves
pub called_moves : (Given Owed : StepFact) (Kinds : Move → Type 0) (Pre Post : State → Type 0) (old new : FolderView) → Called Given Owed Kinds Pre Post old new → Moves Kinds old new
called_moves Given Owed Kinds Pre Post old new a = record { went = a.went; own = a.own }
