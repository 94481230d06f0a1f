-- What is owed throughout, told by prefixes.
use Rattle.std.proofs.Common.{◌≡◌, List, [], ◌∷◌, ◌++◌, ℕ, refl, sym, ap, subst, ◌∙◌}
use Rattle.jl_folder.specs.State.{State, Event, Trace, after, run}
use Rattle.jl_rely.specs.Steps.{StepFact, AllSteps, Throughout, WhereverBefore}

pub throughout_before : (Given Owed : StepFact) (token : List ℕ) (s : State) (es : Trace) → Throughout Given Owed token s es → WhereverBefore Given Owed token s es
unfolding Throughout AllSteps
throughout_before Given Owed token s [] all [] e rest is mine given = cc
throughout_before Given Owed token s [] all (b ∷ before) e rest is mine given = cc
throughout_before Given Owed token s (f ∷ es) all [] e rest is mine given =
    let same : f ≡ e = cc in
    subst (λ (g : Event). Owed token s g.1) same (all.0 (ap (λ (g : Event). g.0) same ∙ mine))
throughout_before Given Owed token s (f ∷ es) all (b ∷ before) e rest is mine given =
    let same : b ≡ f = cc in
    let tail : es ≡ before ++ e ∷ rest = cc in
    subst (λ (g : Event). Owed token (run (after s g) before) e.1) (sym same)
    (throughout_before Given Owed token (after s f) es (all.1 (subst (λ (g : Event). Given g.0 s g.1) same given.0)) before e rest tail mine
    (subst (λ (g : Event). AllSteps Given (after s g) before) same given.1))

pub before_throughout : (Given Owed : StepFact) (token : List ℕ) (s : State) (es : Trace) → WhereverBefore Given Owed token s es → Throughout Given Owed token s es
unfolding Throughout AllSteps
before_throughout Given Owed token s [] all = tt
before_throughout Given Owed token s (f ∷ es) all = (
  λ mine. all [] f es refl mine tt,
  λ given.
      before_throughout Given Owed token (after s f) es
      (λ before e rest is mine more. all (f ∷ before) e rest (ap (λ (l : Trace). f ∷ l) is) mine (given, more)),
)
