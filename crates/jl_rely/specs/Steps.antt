-- Claims on the steps of a trace.
use Rattle.std.specs.Prelude.{◌≡◌, ℕ, List, [], ◌∷◌, ◌++◌}
use Rattle.jl_folder.specs.declared.moves.Move.{Move}
use Rattle.jl_folder.specs.State.{State, Event, Trace, after, run}

-- a claim on a move of a token, in the state where it is made
abbrev pub StepFact : Type 1
StepFact = List ℕ → State → Move → Type 0

-- each step has P
unfoldable pub AllSteps : StepFact → State → Trace → Type 0
AllSteps P s [] = Unit {0}
AllSteps P s (e ∷ es) = P e.0 s e.1 × AllSteps P (after s e) es

-- each step of this token has Owed, wherever all steps before it have Given
unfoldable pub Throughout : (Given Owed : StepFact) → List ℕ → State → Trace → Type 0
Throughout Given Owed token s [] = Unit {0}
Throughout Given Owed token s (e ∷ es) = (e.0 ≡ token → Owed token s e.1) × (Given e.0 s e.1 → Throughout Given Owed token (after s e) es)

-- the same in the words of prefixes: a step of this token has Owed where all steps before it have Given
abbrev pub WhereverBefore : (Given Owed : StepFact) → List ℕ → State → Trace → Type 0
WhereverBefore Given Owed token s es =
    (before : Trace) (e : Event) (rest : Trace) → es ≡ before ++ e ∷ rest → e.0 ≡ token → AllSteps Given s before → Owed token (run s before) e.1

-- each step of this token is a move of these kinds
unfoldable pub OwnMoves : List ℕ → (Move → Type 0) → Trace → Type 0
OwnMoves token Kinds [] = Unit {0}
OwnMoves token Kinds (e ∷ es) = (e.0 ≡ token → Kinds e.1) × OwnMoves token Kinds es

-- no other token makes a step
unfoldable pub IsLone : List ℕ → Trace → Type 0
IsLone token [] = Unit {0}
IsLone token (e ∷ es) = (e.0 ≡ token) × IsLone token es
