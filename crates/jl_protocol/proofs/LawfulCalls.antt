-- Two calls one after the other, what a caller without a library may rest on, and moves that are proper in every state.
use Rattle.std.proofs.Common.{inl, ℕ, List, ◌++◌}
use Rattle.jl_text.specs.Paths.{PathView}
use Rattle.jl_folder.specs.declared.moves.Move.TheVariants.{MakeDir, Remove, RemoveDir}
use Rattle.jl_folder.specs.State.{State, Trace, IsTrace, run}
use Rattle.jl_entry.specs.Names.{IsStoreFolder, IsStoreName}
use Rattle.jl_rely.specs.Steps.{StepFact, Throughout}
use Rattle.jl_rely.proofs.Traces.{Throughout-append, Throughout-weaken, Throughout-both}
use Rattle.jl_protocol.specs.Whole.{CodeAnswers}
use Rattle.jl_protocol.specs.Proper.{IsProperInside, IsProper, IsLawful, RenamesTrue, ProperThroughout, LawfulThroughout}
use Rattle.jl_protocol.proofs.Kills.{tidy_at_end, sound_at_end}

pub proper_together : (root : PathView) (token : List ℕ) (s : State) (xs ys : Trace) → IsTrace s xs → ProperThroughout root token s xs → ProperThroughout root token (run s xs) ys → ProperThroughout root token s (xs ++ ys)
unfolding ProperThroughout
proper_together root token s xs ys may a b tidy =
    Throughout-append (IsProper root) (IsProper root) token s xs ys (a tidy) (λ all. b (tidy_at_end root s xs may all tidy))

pub lawful_together : (root : PathView) (answer : CodeAnswers) (token : List ℕ) (s : State) (xs ys : Trace) → IsTrace s xs → LawfulThroughout root answer token s xs → LawfulThroughout root answer token (run s xs) ys → LawfulThroughout root answer token s (xs ++ ys)
unfolding LawfulThroughout
lawful_together root answer token s xs ys may a b sound =
    Throughout-append (IsLawful root answer) (IsLawful root answer) token s xs ys (a sound) (λ all. b (sound_at_end root answer s xs may all sound))

-- a claim of proper steps before is one of lawful steps before
pub under_lawful : (root : PathView) (answer : CodeAnswers) (Owed : StepFact) (token : List ℕ) (s : State) (xs : Trace) → Throughout (IsProper root) Owed token s xs → Throughout (IsLawful root answer) Owed token s xs
under_lawful root answer Owed token s xs all =
    Throughout-weaken (IsProper root) Owed (IsLawful root answer) Owed (λ t u m lawful. lawful.0) (λ t u m owed. owed) token s xs all

-- proper, and only true bytes renamed to an output
pub lawful_if_true : (root : PathView) (answer : CodeAnswers) (token : List ℕ) (s : State) (xs : Trace) → ProperThroughout root token s xs → Throughout (IsProper root) (λ t. RenamesTrue root answer) token s xs → LawfulThroughout root answer token s xs
unfolding ProperThroughout LawfulThroughout
lawful_if_true root answer token s xs proper renames sound =
    under_lawful root answer (IsLawful root answer) token s xs
    (Throughout-both (IsProper root) (IsProper root) (λ t. RenamesTrue root answer) token s xs (proper sound.tidy) renames)

-- ---- proper in every state

pub always_make_dir : (root : PathView) (token : List ℕ) (s : State) (p : PathView) → IsStoreFolder root p → IsProper root token s (MakeDir p)
unfolding IsProperInside
always_make_dir root token s p is = inl is

pub always_remove : (root : PathView) (token : List ℕ) (s : State) (p : PathView) → IsStoreName root p → IsProper root token s (Remove p)
unfolding IsProperInside
always_remove root token s p is = inl is

pub always_remove_dir : (root : PathView) (token : List ℕ) (s : State) (p : PathView) → IsStoreFolder root p → IsProper root token s (RemoveDir p)
unfolding IsProperInside
always_remove_dir root token s p is = inl is
