-- What a run of the tracker takes away is lawful for each cache that it lies outside of.
use Rattle.std.proofs.Common.{◌≡◌, ◌≢◌, ◌∙◌, ◌⊎◌, inl, inr, ℕ, List, [], ◌∷◌, ◌++◌, refl, sym, ap, subst}
use Rattle.std.proofs.lemmas.List.{append_assoc}
use Rattle.jl_text.specs.Paths.{PathView, path_of}
use Rattle.jl_folder.specs.declared.moves.Move.{Move}
use Rattle.jl_folder.specs.declared.moves.Move.TheVariants.{Remove, RemoveDir}
use Rattle.jl_folder.specs.State.{State}
use Rattle.jl_folder.specs.Views.{FolderView}
use Rattle.jl_streams.specs.Views.{SourceView}
use Rattle.jl_rely.specs.Claims.{Anywhere}
use Rattle.jl_rely.proofs.Moving.{moves_none, moves_called}
use Rattle.jl_entry.specs.Names.{IsOutside, IsBelow, IsOnWay, is_rooted}
use Rattle.jl_protocol.specs.Whole.{CodeAnswers}
use Rattle.jl_protocol.specs.Proper.{IsLawful, LawfulThroughout, IsProperOutside, RenamesTrue}
use Rattle.jl_lines.specs.Lines.{lines_of}
use Rattle.jl_tracker.specs.declared.line.Kind.{Kind}
use Rattle.jl_tracker.specs.declared.line.Kind.TheVariants as kind
use Rattle.jl_tracker.specs.declared.following.Tracked.TheVariants as tracked
use Rattle.jl_tracker.specs.Effects.{Effect, reports_bad, reports_unknown, reports_leaked, removes}
use Rattle.jl_tracker.specs.Stages.{Stage, stage_point}
use Rattle.jl_tracker.specs.Taking.{all_effects, TakesResource, TakesForSome, MovesAsked}
use Rattle.jl_tracker.specs.Tracking.{Tracks}
use Rattle.jl_cmd.specs.of.Track.{LiesOutside, AreOutside, TakesAsked}

-- ---- outside of a root

-- one part more, below a root
below_more : (root p parts : PathView) (part : List ℕ) → p ++ part ∷ [] ≡ root ++ parts → ((rest : PathView) × (p ≡ root ++ rest)) ⊎ (root ≡ p ++ part ∷ [])
below_more [] p parts part e = inl (p, refl)
below_more (r ∷ rs) [] parts part e = inr (search_end rs parts part r e)
  where
    search_end : (rs parts : PathView) (part r : List ℕ) → part ∷ [] ≡ r ∷ (rs ++ parts) → r ∷ rs ≡ part ∷ []
    search_end [] parts part r e = ap (λ (x : List ℕ). x ∷ []) (sym (head_of e))
      where
        head_of : part ∷ [] ≡ r ∷ ([] ++ parts) → part ≡ r
        head_of e = cc
    search_end (q ∷ qs) parts part r e = cc
below_more (r ∷ rs) (x ∷ xs) parts part e = more (below_more rs xs parts part (tail_of e))
  where
    tail_of : x ∷ (xs ++ part ∷ []) ≡ r ∷ (rs ++ parts) → xs ++ part ∷ [] ≡ rs ++ parts
    tail_of e = cc

    head_of : x ∷ (xs ++ part ∷ []) ≡ r ∷ (rs ++ parts) → x ≡ r
    head_of e = cc

    more : ((rest : PathView) × (xs ≡ rs ++ rest)) ⊎ (rs ≡ xs ++ part ∷ []) → ((rest : PathView) × (x ∷ xs ≡ r ∷ (rs ++ rest))) ⊎ (r ∷ rs ≡ x ∷ (xs ++ part ∷ []))
    more (inl h) = inl (h.0, (λ i. head_of e i ∷ h.1 i))
    more (inr h) = inr (λ i. sym (head_of e) i ∷ h i)

rooted_more : (p : PathView) (part : List ℕ) → p ≢ [] → is_rooted p ≡ is_rooted (p ++ part ∷ [])
rooted_more [] part some = absurd (some refl)
rooted_more (x ∷ xs) part some = refl

-- what stands right in a folder that lies outside of a root lies outside of it too
outside_more : (root p : PathView) (part : List ℕ) → p ≢ [] → IsOutside root p → IsOutside root (p ++ part ∷ [])
unfolding IsBelow IsOnWay
outside_more root p part some out = (
  λ h. not_below (below_more root p h.0 part h.1),
  λ h. out.1 (part ∷ h.0, h.1 ∙ append_assoc p (part ∷ []) h.0, rooted_more p part some ∙ h.2),
)
  where
    not_below : ((rest : PathView) × (p ≡ root ++ rest)) ⊎ (root ≡ p ++ part ∷ []) → ⊥
    not_below (inl h) = out.0 h
    not_below (inr e) = out.1 (part ∷ [], e, rooted_more p part some ∙ ap is_rooted (sym e))

remove_lawful : (root : PathView) (answer : CodeAnswers) (token : List ℕ) (s : State) (p : PathView) → IsOutside root p → IsLawful root answer token s (Remove p)
unfolding IsProperOutside RenamesTrue
remove_lawful root answer token s p out = (inr out, tt)

remove_dir_lawful : (root : PathView) (answer : CodeAnswers) (token : List ℕ) (s : State) (p : PathView) → IsOutside root p → IsLawful root answer token s (RemoveDir p)
unfolding IsProperOutside RenamesTrue
remove_dir_lawful root answer token s p out = (inr out, tt)

-- what takes away a resource outside of a root is lawful in every state
resource_lawful : (root : PathView) (answer : CodeAnswers) (token : List ℕ) (s : State) (m : Move) (k : Kind) (name : List ℕ) → LiesOutside root k name → TakesResource k name m → IsLawful root answer token s m
resource_lawful root answer token s m kind.File name out is = subst (IsLawful root answer token s) (sym is) (remove_lawful root answer token s (path_of name) out)
resource_lawful root answer token s m kind.Folder name out (inl is) =
    subst (IsLawful root answer token s) (sym is.1) (remove_lawful root answer token s (path_of name ++ is.0 ∷ []) (outside_more root (path_of name) is.0 out.1 out.0))
resource_lawful root answer token s m kind.Folder name out (inr is) = subst (IsLawful root answer token s) (sym is) (remove_dir_lawful root answer token s (path_of name) out.0)
resource_lawful root answer token s m kind.Semlock name out is = absurd is

effects_lawful : (root : PathView) (answer : CodeAnswers) (token : List ℕ) (s : State) (m : Move) (es : List Effect) → AreOutside root es → TakesForSome es m → IsLawful root answer token s m
effects_lawful root answer token s m [] out h = absurd h
effects_lawful root answer token s m (reports_bad n ∷ es) out (inl h) = absurd h
effects_lawful root answer token s m (reports_bad n ∷ es) out (inr h) = effects_lawful root answer token s m es out h
effects_lawful root answer token s m (reports_unknown k name ∷ es) out (inl h) = absurd h
effects_lawful root answer token s m (reports_unknown k name ∷ es) out (inr h) = effects_lawful root answer token s m es out h
effects_lawful root answer token s m (reports_leaked k name ∷ es) out (inl h) = absurd h
effects_lawful root answer token s m (reports_leaked k name ∷ es) out (inr h) = effects_lawful root answer token s m es out h
effects_lawful root answer token s m (removes k name ∷ es) out (inl h) = resource_lawful root answer token s m k name out.0 h
effects_lawful root answer token s m (removes k name ∷ es) out (inr h) = effects_lawful root answer token s m es out.1 h

-- ---- the run

-- what was asked for is lawful for each root that it lies outside of
pub asked : (answer : CodeAnswers) (source : SourceView) (a b : FolderView) → MovesAsked source a b → TakesAsked answer source a b
unfolding LawfulThroughout
asked answer source a b r = record {
  asked = r;
  lawful = λ root out sound.
      (moves_called (IsLawful root answer) (IsLawful root answer) (TakesForSome (all_effects r.readings)) Anywhere a b (λ s m k. effects_lawful root answer a.token s m (all_effects r.readings) out k) r.moves).owes tt;
}

-- nothing was read, and nothing brought about
pub tracks_nothing : (source : SourceView) (a : Stage) → Tracks source source a a tracked.NoMemory
tracks_nothing source a = record {
  lines = [];
  readings = [];
  open_line = [];
  read = tt;
  seen = λ s. inl record { input = []; left_is = refl; lines_is = refl; ends = λ more. refl };
  stops = inl record { first = []; rest = []; split = refl; mid = stage_point a; plays = refl; cut = refl };
}

pub asks_nothing : (source : SourceView) (v : FolderView) → MovesAsked source v v
asks_nothing source v = record { lines = []; readings = []; read = tt; first = λ s. (lines_of source.left, refl); moves = moves_none (TakesForSome (all_effects [])) v }
