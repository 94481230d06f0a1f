-- Traces of two parts, and what each of their steps has.
use Rattle.std.proofs.Common.{◌≡◌, ◌≢◌, ◌⊎◌, ⊎_elim, ℕ, List, [], ◌∷◌, ◌++◌, refl, sym, subst}
use Rattle.jl_folder.specs.declared.moves.Move.{Move}
use Rattle.jl_folder.specs.State.{State, Trace, Allowed, IsTrace, IsForeign, after, run}
use Rattle.jl_rely.specs.Steps.{StepFact, AllSteps, Throughout, OwnMoves}

-- ---- traces

pub IsTrace-left : (s : State) (xs ys : Trace) → IsTrace s (xs ++ ys) → IsTrace s xs
IsTrace-left s [] ys a = tt
IsTrace-left s (e ∷ es) ys a = (a.0, IsTrace-left (after s e) es ys a.1)

pub IsTrace-right : (s : State) (xs ys : Trace) → IsTrace s (xs ++ ys) → IsTrace (run s xs) ys
IsTrace-right s [] ys a = a
IsTrace-right s (e ∷ es) ys a = IsTrace-right (after s e) es ys a.1

-- ---- each step

pub AllSteps-append : (P : StepFact) (s : State) (xs ys : Trace) → AllSteps P s xs → AllSteps P (run s xs) ys → AllSteps P s (xs ++ ys)
unfolding AllSteps
AllSteps-append P s [] ys a b = b
AllSteps-append P s (e ∷ es) ys a b = (a.0, AllSteps-append P (after s e) es ys a.1 b)

pub AllSteps-left : (P : StepFact) (s : State) (xs ys : Trace) → AllSteps P s (xs ++ ys) → AllSteps P s xs
unfolding AllSteps
AllSteps-left P s [] ys a = tt
AllSteps-left P s (e ∷ es) ys a = (a.0, AllSteps-left P (after s e) es ys a.1)

pub AllSteps-right : (P : StepFact) (s : State) (xs ys : Trace) → AllSteps P s (xs ++ ys) → AllSteps P (run s xs) ys
unfolding AllSteps
AllSteps-right P s [] ys a = a
AllSteps-right P s (e ∷ es) ys a = AllSteps-right P (after s e) es ys a.1

pub AllSteps-weaken : (P Q : StepFact) → ((t : List ℕ) (s : State) (m : Move) → P t s m → Q t s m) → (s : State) (xs : Trace) → AllSteps P s xs → AllSteps Q s xs
unfolding AllSteps
AllSteps-weaken P Q f s [] a = tt
AllSteps-weaken P Q f s (e ∷ es) a = (f e.0 s e.1 a.0, AllSteps-weaken P Q f (after s e) es a.1)

-- steps with a fact keep this of a state, whoever makes them
abbrev pub IsCarried : StepFact → (State → Type 0) → Type 0
IsCarried P Inv = (t : List ℕ) (s : State) (m : Move) → Allowed s m → P t s m → Inv s → Inv (after s (t, m))

-- what holds from state to state holds at the end
pub carried : (Inv : State → Type 0) (P : StepFact) → IsCarried P Inv → (s : State) (xs : Trace) → IsTrace s xs → AllSteps P s xs → Inv s → Inv (run s xs)
unfolding AllSteps
carried Inv P step s [] may all inv = inv
carried Inv P step s (e ∷ es) may all inv = carried Inv P step (after s e) es may.1 all.1 (step e.0 s e.1 may.0 all.0 inv)

-- ---- throughout

pub Throughout-append : (Given Owed : StepFact) (token : List ℕ) (s : State) (xs ys : Trace) → Throughout Given Owed token s xs → (AllSteps Given s xs → Throughout Given Owed token (run s xs) ys) → Throughout Given Owed token s (xs ++ ys)
unfolding Throughout AllSteps
Throughout-append Given Owed token s [] ys a b = b tt
Throughout-append Given Owed token s (e ∷ es) ys a b =
    (a.0, λ given. Throughout-append Given Owed token (after s e) es ys (a.1 given) (λ rest. b (given, rest)))

-- a weaker claim, under a stronger premise
pub Throughout-weaken : (Given Owed Given' Owed' : StepFact) → ((t : List ℕ) (s : State) (m : Move) → Given' t s m → Given t s m) → ((t : List ℕ) (s : State) (m : Move) → Owed t s m → Owed' t s m) → (token : List ℕ) (s : State) (xs : Trace) → Throughout Given Owed token s xs → Throughout Given' Owed' token s xs
unfolding Throughout
Throughout-weaken Given Owed Given' Owed' g f token s [] a = tt
Throughout-weaken Given Owed Given' Owed' g f token s (e ∷ es) a =
    (λ own. f token s e.1 (a.0 own), λ given. Throughout-weaken Given Owed Given' Owed' g f token (after s e) es (a.1 (g e.0 s e.1 given)))

-- two claims throughout are one on both
pub Throughout-both : (Given P Q : StepFact) (token : List ℕ) (s : State) (xs : Trace) → Throughout Given P token s xs → Throughout Given Q token s xs → Throughout Given (λ t u m. P t u m × Q t u m) token s xs
unfolding Throughout
Throughout-both Given P Q token s [] a b = tt
Throughout-both Given P Q token s (e ∷ es) a b = (λ own. (a.0 own, b.0 own), λ given. Throughout-both Given P Q token (after s e) es (a.1 given) (b.1 given))

-- others' steps owe nothing of this token
pub others_owe : (Given Owed : StepFact) (token : List ℕ) (s : State) (others : Trace) → IsForeign token others → Throughout Given Owed token s others
unfolding Throughout
others_owe Given Owed token s [] foreign = tt
others_owe Given Owed token s (e ∷ es) foreign = (λ own. absurd (foreign.0 own), λ given. others_owe Given Owed token (after s e) es foreign.1)

-- where each run keeps its part, every step is Given
pub all_together : (P : StepFact) (s : State) (xs : Trace) → ((token : List ℕ) → Throughout P P token s xs) → AllSteps P s xs
unfolding Throughout AllSteps
all_together P s [] each = tt
all_together P s (e ∷ es) each =
    let here = (each e.0).0 refl in (here, all_together P (after s e) es (λ token. (each token).1 here))

-- the same of one run and the others
pub with_others : (P : StepFact) (token : List ℕ) (s : State) (es : Trace) → ((t : List ℕ) → (t ≡ token) ⊎ (t ≢ token)) → Throughout P P token s es → ((other : List ℕ) → other ≢ token → Throughout P P other s es) → AllSteps P s es
with_others P token s es decide mine theirs =
    all_together P s es (λ t. ⊎_elim (λ (e : t ≡ token). subst (λ u. Throughout P P u s es) (sym e) mine) (λ ne. theirs t ne) (decide t))

-- ---- own moves

pub OwnMoves-append : (token : List ℕ) (Kinds : Move → Type 0) (xs ys : Trace) → OwnMoves token Kinds xs → OwnMoves token Kinds ys → OwnMoves token Kinds (xs ++ ys)
unfolding OwnMoves
OwnMoves-append token Kinds [] ys a b = b
OwnMoves-append token Kinds (e ∷ es) ys a b = (a.0, OwnMoves-append token Kinds es ys a.1 b)

pub OwnMoves-weaken : (token : List ℕ) (Kinds Kinds' : Move → Type 0) → ((m : Move) → Kinds m → Kinds' m) → (xs : Trace) → OwnMoves token Kinds xs → OwnMoves token Kinds' xs
unfolding OwnMoves
OwnMoves-weaken token Kinds Kinds' f [] a = tt
OwnMoves-weaken token Kinds Kinds' f (e ∷ es) a = (λ mine. f e.1 (a.0 mine), OwnMoves-weaken token Kinds Kinds' f es a.1)

-- others' moves are of any kind
pub foreign_own : (token : List ℕ) (Kinds : Move → Type 0) (es : Trace) → IsForeign token es → OwnMoves token Kinds es
unfolding OwnMoves
foreign_own token Kinds [] foreign = tt
foreign_own token Kinds (e ∷ es) foreign = (λ mine. absurd (foreign.0 mine), foreign_own token Kinds es foreign.1)

-- what is owed of own moves of these kinds
pub Throughout-kinds : (Given Owed Owed' : StepFact) (token : List ℕ) (Kinds : Move → Type 0) → ((s : State) (m : Move) → Kinds m → Owed token s m → Owed' token s m) → (s : State) (xs : Trace) → OwnMoves token Kinds xs → Throughout Given Owed token s xs → Throughout Given Owed' token s xs
unfolding Throughout OwnMoves
Throughout-kinds Given Owed Owed' token Kinds f s [] own a = tt
Throughout-kinds Given Owed Owed' token Kinds f s (e ∷ es) own a =
    (λ mine. f s e.1 (own.0 mine) (a.0 mine), λ given. Throughout-kinds Given Owed Owed' token Kinds f (after s e) es own.1 (a.1 given))
