-- Calls that are lawful throughout, from a sound state to a sound one.
use Rattle.std.proofs.Common.{◌≡◌, ℕ, List, ◌++◌, sym, subst}
use Rattle.jl_text.specs.Paths.{PathView}
use Rattle.jl_folder.specs.declared.moves.Move.{Move}
use Rattle.jl_folder.specs.State.{State}
use Rattle.jl_folder.specs.Views.{FolderView, state, moved}
use Rattle.jl_folder.specs.Calls.{Waits}
use Rattle.jl_rely.specs.Steps.{StepFact, AllSteps}
use Rattle.jl_rely.specs.Claims.{Called, GoesOn}
use Rattle.jl_rely.proofs.Since.{moved_then, state_after}
use Rattle.jl_rely.proofs.Traces.{AllSteps-left, AllSteps-right, Throughout-weaken, OwnMoves-weaken}
use Rattle.jl_rely.proofs.Composed.{carried_stable, waits_called, not_called, then_called, called_for}
use Rattle.jl_protocol.specs.Whole.{CodeAnswers}
use Rattle.jl_protocol.specs.Tidy.{IsTidy, IsSound}
use Rattle.jl_protocol.specs.Proper.{IsProper, IsLawful, RenamesTrue, LawfulThroughout}
use Rattle.jl_protocol.proofs.Kills.{sound_carried, sound_at_end}
use Rattle.jl_store.specs.Trust.{IsTrusted}

-- lawful throughout, from a sound state to one, by own moves of these kinds
abbrev pub Lawfully : PathView → CodeAnswers → (Move → Type 0) → FolderView → FolderView → Type 0
Lawfully root answer Kinds old new = Called (IsLawful root answer) (IsLawful root answer) Kinds (IsSound root answer) (IsSound root answer) old new

module _ (root : PathView) (answer : CodeAnswers) (Kinds : Move → Type 0) where
  -- while others move
  pub lawful_waits : (old new : FolderView) → new.token ≡ old.token → Waits old new → Lawfully root answer Kinds old new
  lawful_waits old new same waits =
      waits_called (IsLawful root answer) (IsLawful root answer) Kinds (IsSound root answer) (IsSound root answer) old new
      (carried_stable (IsLawful root answer) old.token (IsSound root answer) (sound_carried root answer)) (λ s h. h) same waits

  -- where nothing is done
  pub lawful_none : (v : FolderView) → Lawfully root answer Kinds v v
  lawful_none v = not_called (IsLawful root answer) (IsLawful root answer) Kinds (IsSound root answer) (IsSound root answer) v (λ s x. x)

  -- one after the other
  pub lawful_then : (old mid new : FolderView) → Lawfully root answer Kinds old mid → Lawfully root answer Kinds mid new → Lawfully root answer Kinds old new
  lawful_then old mid new a b = then_called (IsLawful root answer) (IsLawful root answer) Kinds (IsSound root answer) (IsSound root answer) (IsSound root answer) old mid new a b

  -- by moves of fewer kinds
  pub lawful_as : (Kinds' : Move → Type 0) (old new : FolderView) → ((m : Move) → Kinds' m → Kinds m) → Lawfully root answer Kinds' old new → Lawfully root answer Kinds old new
  lawful_as Kinds' old new f a =
      called_for (IsLawful root answer) (IsLawful root answer) Kinds' Kinds (IsSound root answer) (IsSound root answer) (IsSound root answer) (IsSound root answer) old new f (λ s x. x) (λ s x. x) a

  -- a call that is proper throughout and lawful throughout
  pub lawful_of : (Owed : StepFact) (Kinds' : Move → Type 0) (Post : State → Type 0) (old new : FolderView) → ((m : Move) → Kinds' m → Kinds m) → Called (IsProper root) Owed Kinds' (IsTidy root) Post old new → LawfulThroughout root answer old.token (state old) (moved old new) → Lawfully root answer Kinds old new
  unfolding LawfulThroughout
  lawful_of Owed Kinds' Post old new f call lawful = record {
    went = call.went;
    own = OwnMoves-weaken old.token Kinds' Kinds f (moved old new) call.own;
    owes = lawful;
    post = λ sound all.
        subst (IsSound root answer) (sym (state_after old new call.went)) (sound_at_end root answer (state old) (moved old new) call.went.lawful all sound);
  }

  -- a call whose own steps are proper and rename true bytes alone
  pub lawful_by : (Owed : StepFact) (Kinds' : Move → Type 0) (Post : State → Type 0) (old new : FolderView) → ((m : Move) → Kinds' m → Kinds m) → ((t : List ℕ) (s : State) (m : Move) → Owed t s m → IsProper root t s m × RenamesTrue root answer s m) → Called (IsProper root) Owed Kinds' (IsTidy root) Post old new → Lawfully root answer Kinds old new
  unfolding LawfulThroughout
  lawful_by Owed Kinds' Post old new f true call =
      lawful_of Owed Kinds' Post old new f call
      (λ sound. Throughout-weaken (IsProper root) Owed (IsLawful root answer) (IsLawful root answer) (λ t s m given. given.0) (λ t s m owed. true t s m owed) old.token (state old) (moved old new) (call.owes sound.tidy))

-- ---- where the whole may be trusted, its parts may

module _ (root : PathView) (answer : CodeAnswers) (old mid new : FolderView) where
  all_parts : GoesOn old mid → GoesOn mid new → IsTrusted root answer old new → AllSteps (IsLawful root answer) (state old) (moved old mid ++ moved mid new)
  all_parts a b trust = subst (AllSteps (IsLawful root answer) (state old)) (moved_then old mid new a b) trust.2

  pub trusted_front : GoesOn old mid → GoesOn mid new → IsTrusted root answer old new → IsTrusted root answer old mid
  trusted_front a b trust = (trust.0, trust.1, AllSteps-left (IsLawful root answer) (state old) (moved old mid) (moved mid new) (all_parts a b trust))

  pub trusted_later : (Kinds : Move → Type 0) → Lawfully root answer Kinds old mid → GoesOn mid new → mid.told → IsTrusted root answer old new → IsTrusted root answer mid new
  trusted_later Kinds a b is trust =
      let P = IsLawful root answer in
      let all = all_parts a.went b trust in (
        is,
        a.post trust.1 (AllSteps-left P (state old) (moved old mid) (moved mid new) all),
        subst (λ (s : State). AllSteps P s (moved mid new)) (sym (state_after old mid a.went)) (AllSteps-right P (state old) (moved old mid) (moved mid new) all),
      )
