-- From single moves to the ends of traces, and what kills leave.
use Rattle.std.proofs.Common.{inl, inr, [], ◌∷◌, sym, subst}
use Rattle.jl_text.specs.Paths.{PathView}
use Rattle.jl_folder.specs.declared.moves.Move.TheVariants.{MakeDir, Create, Append, Rename, Remove, RemoveDir}
use Rattle.jl_folder.specs.State.{State, Event, Trace, Allowed, IsTrace, after, run}
use Rattle.jl_rely.specs.Steps.{AllSteps}
use Rattle.jl_rely.proofs.Traces.{IsCarried, carried}
use Rattle.jl_protocol.specs.Whole.{CodeAnswers}
use Rattle.jl_protocol.specs.Tidy.{IsTidy, IsSound, IsTorn, KillLeaves}
use Rattle.jl_protocol.specs.Proper.{IsProperInside, IsProperOutside, IsProper, IsLawful, RenamesTrue}
use Rattle.jl_protocol.proofs.TidyKept.{stays_tidy, stays_sound}

-- proper steps keep a tidy state tidy, whoever makes them
pub tidy_carried : (root : PathView) → IsCarried (IsProper root) (IsTidy root)
tidy_carried root t s m may proper tidy = stays_tidy root t s tidy m may proper

-- and lawful ones a sound state sound
pub sound_carried : (root : PathView) (answer : CodeAnswers) → IsCarried (IsLawful root answer) (IsSound root answer)
sound_carried root answer t s m may lawful sound = stays_sound root answer t s m may lawful sound

pub tidy_at_end : (root : PathView) (s : State) (xs : Trace) → IsTrace s xs → AllSteps (IsProper root) s xs → IsTidy root s → IsTidy root (run s xs)
tidy_at_end root s xs may all tidy = carried (IsTidy root) (IsProper root) (tidy_carried root) s xs may all tidy

pub sound_at_end : (root : PathView) (answer : CodeAnswers) (s : State) (xs : Trace) → IsTrace s xs → AllSteps (IsLawful root answer) s xs → IsSound root answer s → IsSound root answer (run s xs)
sound_at_end root answer s xs may all sound = carried (IsSound root answer) (IsLawful root answer) (sound_carried root answer) s xs may all sound

-- a first part of a lawful append is lawful
torn_sound : (root : PathView) (answer : CodeAnswers) (s t : State) (e : Event) → Allowed s e.1 → IsLawful root answer e.0 s e.1 → IsSound root answer s → IsTorn s e t → IsSound root answer t
unfolding IsTorn IsProperInside IsProperOutside RenamesTrue
torn_sound root answer s t (token, MakeDir p) may lawful sound torn = absurd torn
torn_sound root answer s t (token, Create p n) may lawful sound torn = absurd torn
torn_sound root answer s t (token, Append n bytes) may lawful sound torn =
    subst (IsSound root answer) (sym torn.3) (stays_sound root answer token s (Append n torn.0) may (lawful.0, tt) sound)
torn_sound root answer s t (token, Rename p q) may lawful sound torn = absurd torn
torn_sound root answer s t (token, Remove p) may lawful sound torn = absurd torn
torn_sound root answer s t (token, RemoveDir p) may lawful sound torn = absurd torn

pub kill_leaves_sound : (root : PathView) (answer : CodeAnswers) (s t : State) (xs : Trace) → IsTrace s xs → AllSteps (IsLawful root answer) s xs → IsSound root answer s → KillLeaves s xs t → IsSound root answer t
unfolding KillLeaves AllSteps
kill_leaves_sound root answer s t [] may all sound left = subst (IsSound root answer) (sym left) sound
kill_leaves_sound root answer s t (e ∷ es) may all sound (inl now) = subst (IsSound root answer) (sym now) sound
kill_leaves_sound root answer s t (e ∷ es) may all sound (inr (inl torn)) = torn_sound root answer s t e may.0 all.0 sound torn
kill_leaves_sound root answer s t (e ∷ es) may all sound (inr (inr later)) =
    kill_leaves_sound root answer (after s e) t es may.1 all.1 (stays_sound root answer e.0 s e.1 may.0 all.0 sound) later
