-- The states of a call.
use Rattle.std.proofs.Common.{◌≡◌, ◌⊎◌, inl, inr, ⊎_elim, ℕ, List, [], ◌∷◌, ◌++◌, Bool, true, false, refl, sym, ap, subst, ◌∙◌, append_assoc, append-nil}
use Rattle.jl_folder.specs.State.{State, IsState, Event, Trace, Opens, History, IsHistory, AtSome, AtEach, IsTrace, now, run, after}
use Rattle.jl_folder.specs.Views.{FolderView, state, moved}
use Rattle.jl_folder.proofs.Traces.{run-append}
use Rattle.jl_folder.proofs.StateKept.{IsState-run}
use Rattle.jl_rely.specs.Claims.{GoesOn}
use Rattle.jl_rely.proofs.Since.{moved_then, state_after}
use Rattle.jl_rely.proofs.Traces.{IsTrace-left}

-- what tells began as a state, and is one
pub told_state : (v : FolderView) → IsHistory v.history v.opens → IsState (state v)
told_state v lawful = IsState-run v.history.start v.history.trace lawful.start lawful.trace

-- each state of a call that began as a state is one
pub state_each : (s : State) (moves before later : Trace) → IsState s → IsTrace s moves → moves ≡ before ++ later → IsState (run s before)
state_each s moves before later ok may split = IsState-run s before ok (IsTrace-left s before later (subst (IsTrace s) split may))

pub state_new : (old new : FolderView) → GoesOn old new → IsState (state old) → IsState (state new)
state_new old new goes ok = subst IsState (sym (state_after old new goes)) (IsState-run (state old) (moved old new) ok goes.lawful)

-- ---- at some state

pub some_start : (s : State) (moves : Trace) (P : State → Type 0) → P s → AtSome s moves P
some_start s moves P p = ([], moves, refl, p)

pub some_as : (s : State) (moves : Trace) (P Q : State → Type 0) → ((t : State) → P t → Q t) → AtSome s moves P → AtSome s moves Q
some_as s moves P Q f (before, later, split, p) = (before, later, split, f (run s before) p)

module _ (P : State → Type 0) (old mid new : FolderView) (first : GoesOn old mid) (second : GoesOn mid new) where
  -- of the first of two calls
  pub some_sooner : AtSome (state old) (moved old mid) P → AtSome (state old) (moved old new) P
  some_sooner (before, later, split, p) =
      (before, later ++ moved mid new, moved_then old mid new first second ∙ ap (λ (t : Trace). t ++ moved mid new) split ∙ append_assoc before later (moved mid new), p)

  -- of the second
  pub some_later : AtSome (state mid) (moved mid new) P → AtSome (state old) (moved old new) P
  some_later (before, later, split, p) = (
    moved old mid ++ before,
    later,
    moved_then old mid new first second ∙ ap (λ (t : Trace). moved old mid ++ t) split ∙ sym (append_assoc (moved old mid) before later),
    subst P (ap (λ s. run s before) (state_after old mid first) ∙ sym (run-append (state old) (moved old mid) before)) p,
  )

-- at the end
pub some_end : (P : State → Type 0) (old new : FolderView) → GoesOn old new → P (state new) → AtSome (state old) (moved old new) P
some_end P old new goes p = (moved old new, [], sym (append-nil (moved old new)), subst P (state_after old new goes) p)

-- ---- in a longer call

-- what is claimed of a call's states holds of a longer call
abbrev pub IsLasting : (State → Trace → Type 0) → Type 0
IsLasting P = (s : State) (front moves back : Trace) → P (run s front) moves → P s (front ++ (moves ++ back))

pub some_lasting : (P : State → Type 0) → IsLasting (λ s moves. AtSome s moves P)
some_lasting P s front moves back (before, later, split, p) = (
  front ++ before,
  later ++ back,
  ap (λ (t : Trace). front ++ (t ++ back)) split ∙ ap (λ (t : Trace). front ++ t) (append_assoc before later back) ∙ sym (append_assoc front before (later ++ back)),
  subst P (sym (run-append s front before)) p,
)

-- and what holds at each of its states holds at each of the shorter one's
pub each_within : (P : State → Type 0) (s : State) (front moves back : Trace) → AtEach s (front ++ (moves ++ back)) P → AtEach (run s front) moves P
each_within P s front moves back each before later split =
    subst P (run-append s front before)
    (each (front ++ before) (later ++ back)
    (ap (λ (t : Trace). front ++ (t ++ back)) split ∙ ap (λ (t : Trace). front ++ t) (append_assoc before later back) ∙ sym (append_assoc front before (later ++ back))))

module _ (P : State → Trace → Type 0) (lasts : IsLasting P) (old mid new : FolderView) (first : GoesOn old mid) (second : GoesOn mid new) where
  pub sooner : P (state old) (moved old mid) → P (state old) (moved old new)
  sooner p = subst (P (state old)) (sym (moved_then old mid new first second)) (lasts (state old) [] (moved old mid) (moved mid new) p)

  pub later : P (state mid) (moved mid new) → P (state old) (moved old new)
  later p =
      subst (P (state old)) (ap (λ (t : Trace). moved old mid ++ t) (append-nil (moved mid new)) ∙ sym (moved_then old mid new first second))
      (lasts (state old) (moved old mid) (moved mid new) [] (subst (λ (s : State). P s (moved mid new)) (state_after old mid first) p))

module _ (P : State → Type 0) (old mid new : FolderView) (first : GoesOn old mid) (second : GoesOn mid new) (each : AtEach (state old) (moved old new) P) where
  pub each_sooner : AtEach (state old) (moved old mid) P
  each_sooner = each_within P (state old) [] (moved old mid) (moved mid new) (subst (λ (t : Trace). AtEach (state old) t P) (moved_then old mid new first second) each)

  pub each_later : AtEach (state mid) (moved mid new) P
  each_later =
      subst (λ (s : State). AtEach s (moved mid new) P) (sym (state_after old mid first))
      (each_within P (state old) (moved old mid) (moved mid new) []
      (subst (λ (t : Trace). AtEach (state old) t P) (moved_then old mid new first second ∙ ap (λ (t : Trace). moved old mid ++ t) (sym (append-nil (moved mid new)))) each))

-- ---- at each state

each_of_none : (test : State → Bool) (s : State) → test s ≡ true → AtEach s [] (λ t. test t ≡ true)
each_of_none test s is [] later split = is
each_of_none test s is (b ∷ before) later split = cc

each_of_more : (test : State → Bool) (s : State) (e : Event) (es : Trace) → test s ≡ true → AtEach (after s e) es (λ t. test t ≡ true) → AtEach s (e ∷ es) (λ t. test t ≡ true)
each_of_more test s e es is each [] later split = is
each_of_more test s e es is each (b ∷ before) later split =
    let same : b ≡ e = cc in
    let tail : es ≡ before ++ later = cc in
    subst (λ (x : Event). test (run (after s x) before) ≡ true) (sym same) (each before later tail)

-- a test passes at each state, or fails at some
pub each_or_some : (test : State → Bool) (s : State) (moves : Trace) → AtEach s moves (λ t. test t ≡ true) ⊎ AtSome s moves (λ t. test t ≡ false)
each_or_some test s [] = elim (test s) as (λ b. test s ≡ b → AtEach s [] (λ t. test t ≡ true) ⊎ AtSome s [] (λ t. test t ≡ false)) [
  | true ↦ λ is. inl (each_of_none test s is)
  | false ↦ λ is. inr (some_start s [] (λ t. test t ≡ false) is)
] refl
each_or_some test s (e ∷ es) = elim (test s) as (λ b. test s ≡ b → AtEach s (e ∷ es) (λ t. test t ≡ true) ⊎ AtSome s (e ∷ es) (λ t. test t ≡ false)) [
  | true ↦ λ is.
      ⊎_elim
      (λ (each : AtEach (after s e) es (λ t. test t ≡ true)). inl (each_of_more test s e es is each))
      (λ (some : AtSome (after s e) es (λ t. test t ≡ false)). inr (e ∷ some.0, some.1, ap (λ (t : Trace). e ∷ t) some.2, some.3))
      (each_or_some test (after s e) es)
  | false ↦ λ is. inr (some_start s (e ∷ es) (λ t. test t ≡ false) is)
] refl
