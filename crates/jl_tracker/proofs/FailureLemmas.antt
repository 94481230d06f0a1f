-- Removals that failed for what was found, and those that failed by faults.
use Rattle.std.proofs.Common.{ℕ, ◌+◌, ◌≤◌, ◌⊎◌, inl, inr, List, [], ◌∷◌, Bool, true, false, sym, ap, subst, refl, arith}
use Rattle.jl_text.specs.Paths.{PathView, path_of}
use Rattle.jl_text.specs.Counts.{Rose}
use Rattle.jl_tracker.specs.Stages.{Stage, FolderPoint, StagePoint}
use Rattle.jl_tracker.specs.declared.line.Kind.{Kind}
use Rattle.jl_tracker.specs.declared.line.Kind.TheVariants as kind
use Rattle.jl_tracker.specs.Removing.{TriedFile, TriedFolder, Removal}
use Rattle.jl_tracker.specs.Effects.{Effect, reports_bad, reports_unknown, reports_leaked, removes}
use Rattle.jl_tracker.specs.Plays.{EffectMoves, ComesAbout, PlaysAt}
use Rattle.jl_tracker.specs.Failures.{FindsNoFile, GoesAsFound, FailsByFault, PlaysBut, RoseBy}
use Rattle.jl_tracker.proofs.CauseLemmas.{folder_cause, names_later}

-- a removal never lowers the count of faults
folder_later : (p : PathView) (done : Bool) (a b : FolderPoint) → TriedFolder p done a b → a.faults ≤ b.faults
folder_later p done a b t = omega (arith, t.list.steady, names_later p t.names t.listed t.emptied t.tries, t.last.later)

-- no removal lowers the count of faults
removal_later : (k : Kind) (name : List ℕ) (done : Bool) (a b : FolderPoint) → Removal k name done a b → a.faults ≤ b.faults
removal_later kind.File name done a b t = t.later
removal_later kind.Folder name true a b t = folder_later (path_of name) true a b t
removal_later kind.Folder name false a b (inl t) = t.later
removal_later kind.Folder name false a b (inr t) = folder_later (path_of name) false a b t
removal_later kind.Semlock name done a b t = omega (arith, ap (λ p. p.faults) t.1)

-- nor does another effect
effect_later : (e : Effect) (done : Bool) (a b : FolderPoint) → EffectMoves e done a b → a.faults ≤ b.faults
effect_later (reports_bad number) done a b t = omega (arith, ap (λ p. p.faults) t)
effect_later (reports_unknown k name) done a b t = omega (arith, ap (λ p. p.faults) t)
effect_later (reports_leaked k name) done a b t = omega (arith, ap (λ p. p.faults) t)
effect_later (removes k name) done a b t = removal_later k name done a b t

-- a file that couldn't be removed: there was none, or the count rose
file_fails : (p : PathView) (a b : FolderPoint) → TriedFile p false a b → FindsNoFile p a b ⊎ Rose a.faults b.faults
file_fails p a b t = elim t.call.answer [
  | inl h ↦ inl record { others = t.call.others; own = t.call.own; foreign = t.call.foreign; start = t.call.start; trace = t.call.trace; lawful = t.call.lawful; answer = (h.0, h.1) }
  | inr h ↦ inr h.0
]

-- an effect goes as was found, or is a removal that failed by a fault
effect_goes : (e : Effect) (done : Bool) (a b : FolderPoint) → EffectMoves e done a b → GoesAsFound e done a b ⊎ FailsByFault e done a b
effect_goes (reports_bad number) done a b t = inl tt
effect_goes (reports_unknown k name) done a b t = inl tt
effect_goes (reports_leaked k name) done a b t = inl tt
effect_goes (removes k name) true a b t = inl tt
effect_goes (removes kind.File name) false a b t = file_fails (path_of name) a b t
effect_goes (removes kind.Folder name) false a b t = elim (folder_cause (path_of name) a b t) [
  | inl h ↦ inl (inl h)
  | inr h ↦ elim h [
    | inl held ↦ inl (inr held)
    | inr rose ↦ inr rose
  ]
]
effect_goes (removes kind.Semlock name) false a b t = inl t.1

-- the count rose in a removal that failed by a fault
fault_rose : (e : Effect) (done : Bool) (a b : FolderPoint) → FailsByFault e done a b → Rose a.faults b.faults
fault_rose (reports_bad number) done a b h = absurd h
fault_rose (reports_unknown k name) done a b h = absurd h
fault_rose (reports_leaked k name) done a b h = absurd h
fault_rose (removes kind.File name) true a b h = absurd h
fault_rose (removes kind.File name) false a b h = h
fault_rose (removes kind.Folder name) true a b h = absurd h
fault_rose (removes kind.Folder name) false a b h = h
fault_rose (removes kind.Semlock name) done a b h = absurd h

-- an effect before effects of which so many failed by faults
effect_before : (s : Stage) (e : Effect) (es : List Effect) (done : Bool) (a m b : StagePoint) (n : ℕ) → s.folder.told → ComesAbout s e done a m → PlaysBut s n es m b → RoseBy n m.folder.faults b.folder.faults → (k : ℕ) × PlaysBut s k (e ∷ es) a b × RoseBy k a.folder.faults b.folder.faults
effect_before s e es done a m b n told does plays rose = go (effect_goes e done a.folder m.folder (does.moves told))
  where
    later : a.folder.faults ≤ m.folder.faults
    later = effect_later e done a.folder m.folder (does.moves told)

    go : GoesAsFound e done a.folder m.folder ⊎ FailsByFault e done a.folder m.folder → (k : ℕ) × PlaysBut s k (e ∷ es) a b × RoseBy k a.folder.faults b.folder.faults
    go (inl found) = (n, (done, m, does, inl (found, plays)), omega (arith, later, rose))
    go (inr fault) = (n + 1, (done, m, does, inr (n, refl, fault, plays)), omega (arith, rose, fault_rose e done a.folder m.folder fault))

-- of effects that come about, the removals that failed by faults alone are at most as many as the count rose by
pub plays_but : (s : Stage) (es : List Effect) (a b : StagePoint) → PlaysAt s es a b → s.folder.told → (n : ℕ) × PlaysBut s n es a b × RoseBy n a.folder.faults b.folder.faults
plays_but s [] a b p told = (0, (refl, p), subst (λ x. RoseBy 0 a.folder.faults x.folder.faults) (sym p) (omega arith))
plays_but s (e ∷ es) a b p told = let rest = plays_but s es p.1 b p.3 told in effect_before s e es p.0 a p.1 b rest.0 told p.2 rest.1 rest.2
