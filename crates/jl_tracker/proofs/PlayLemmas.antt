-- Effects that come about, or stop for want of memory.
use Rattle.std.proofs.Common.{◌≡◌, ℕ, inl, inr, List, [], ◌∷◌, ◌++◌, true, false, true≢false, Some, None, Result, Ok, Err, sym, ◌∙◌, ap, subst, refl, arith}
use Rattle.std.proofs.lemmas.List.{append-nil, append_assoc}
use Rattle.std.specs.Prelude.{IsErr, MatchResult}
use Rattle.jl_folder.specs.Views.{FolderView}
use Rattle.jl_streams.specs.Views.{SinkView}
use Rattle.jl_tracker.specs.declared.line.Kind.{Kind}
use Rattle.jl_tracker.specs.declared.line.Kind.TheVariants as kind
use Rattle.jl_tracker.specs.declared.table.Step.{Step}
use Rattle.jl_tracker.specs.declared.table.Step.TheVariants as step
use Rattle.jl_tracker.specs.TrackerLines.{LineView, registers, unregisters, may_unlink, probes, IsTrackerLine, IsNameOfKind}
use Rattle.jl_tracker.specs.Counting.{CountsView, Applies, after_line, counts_answer}
use Rattle.jl_tracker.specs.Removing.{Removal}
use Rattle.jl_tracker.specs.Tries.{IsRemovable}
use Rattle.jl_tracker.specs.Effects.{Effect, removes, removal_text, text_of, effects_of, line_effects}
use Rattle.jl_tracker.specs.Stages.{Stage, StageKeeps, StagePoint, stage, stage_point, folder_point, sink_point}
use Rattle.jl_tracker.specs.Plays.{Wrote, EffectMoves, EffectCut, Plays, PlaysAt, CutFirst, Stops, StopsAt, PlaysOrStops}
use Rattle.jl_tracker.specs.Turns.{IsSaidRemovable, LinePlays, LineStops}
use Rattle.jl_tracker.proofs.SpelledLemmas.{path_text-read}

-- what holds of each error holds of a result that is one
pub on_err : {A E : Type 0} (P : Result A E → Type 0) (r : Result A E) → IsErr r → ((e : E) → P (Err e)) → P r
on_err P (Ok done) err h = absurd (true≢false (sym err))
on_err P (Err e) err h = h e

-- the same of a result in two cases
pub match_err : {A E : Type 0} (P : A → Type 0) (Q : E → Type 0) (r : Result A E) → IsErr r → ((e : E) → Q e) → MatchResult r P Q
match_err P Q (Ok done) err h = absurd (true≢false (sym err))
match_err P Q (Err e) err h = h e

-- the text of a removal that was done
no_text : (k : Kind) (name : List ℕ) → (k ≡ kind.Semlock → ⊥) → removal_text k name true ≡ []
no_text kind.File name h = refl
no_text kind.Folder name h = refl
no_text kind.Semlock name h = absurd (h refl)

-- a removal that was done
pub gone_plays : (k : Kind) (name : List ℕ) (old new : FolderView) (err : SinkView) → (old.told → Removal k name true (folder_point old) (folder_point new)) → (k ≡ kind.Semlock → ⊥) → Plays (removes k name ∷ []) (stage old err) (stage new err)
gone_plays k name old new err moves other = (
  true,
  stage_point (stage new err),
  record { moves = moves; text = λ t. (omega arith, inl (sym (append-nil err.written) ∙ ap (λ x. err.written ++ x) (sym (no_text k name other)), refl)) },
  refl,
)

-- one effect, of which the text was written or not for want of memory
pub kept_ends : (e : Effect) {S : Type 0} (view : S → SinkView) (err err' : S) (old new : FolderView) {A E : Type 0} (r : Result A E) → MatchResult r (λ done. (view err).told → Wrote (text_of e false) (sink_point (view err)) (sink_point (view err'))) (λ want. err' ≡ err)
    → (old.told → EffectMoves e false (folder_point old) (folder_point new)) → (old.told → EffectCut e (folder_point old) (folder_point new)) → PlaysOrStops r (e ∷ []) (stage old (view err)) (stage new (view err'))
kept_ends e view err err' old new (Ok done) text moves cut = (false, stage_point (stage new (view err')), record { moves = moves; text = text }, refl)
kept_ends e view err err' old new (Err want) same moves cut = record {
  first = [];
  rest = e ∷ [];
  split = refl;
  mid = stage_point (stage old (view err));
  plays = refl;
  cut = inr record { moves = cut; err_is = ap (λ s. sink_point (view s)) same };
}

-- an effect that want of memory cut off
pub cut_stops : (e : Effect) (old new : FolderView) (err : SinkView) → (old.told → EffectCut e (folder_point old) (folder_point new)) → Stops (e ∷ []) (stage old err) (stage new err)
cut_stops e old new err cut = record {
  first = [];
  rest = e ∷ [];
  split = refl;
  mid = stage_point (stage old err);
  plays = refl;
  cut = inr record { moves = cut; err_is = refl };
}

-- there is nothing to do
pub stops_none : (a : Stage) → Stops [] a a
stops_none a = record { first = []; rest = []; split = refl; mid = stage_point a; plays = refl; cut = refl }

-- no effects come about, whatever is answered
pub none_ends : (a : Stage) {A E : Type 0} (r : Result A E) → PlaysOrStops r [] a a
none_ends a (Ok done) = refl
none_ends a (Err want) = stops_none a

-- what was counted of a line, and brought about; or there was no memory
abbrev pub GoodEnds : {A E : Type 0} → LineView → CountsView → CountsView → Result A E → Stage → Stage → Type 0
GoodEnds said old new r a b = MatchResult r (λ done. (new ≡ after_line said old) × Plays (effects_of said (counts_answer said old)) a b) (λ want. Stops (effects_of said (counts_answer said old)) a b)

-- the effects of a line that was counted
pub good_ends : (said : LineView) (old new : CountsView) (s : Step) {A E : Type 0} (r : Result A E) (a b : Stage) → Applies said old new s → (s ≡ step.NoMemory → IsErr r)
    → PlaysOrStops r (effects_of said s) a b → GoodEnds said old new r a b
good_ends said old new s {A} {E} r a b h none ends = go s h none ends
  where
    both : (s : Step) (r : Result A E) → s ≡ counts_answer said old → new ≡ after_line said old → PlaysOrStops r (effects_of said s) a b → GoodEnds said old new r a b
    both s (Ok done) is n p = (n, subst (λ x. Plays (effects_of said x) a b) is p)
    both s (Err want) is n p = subst (λ x. Stops (effects_of said x) a b) is p

    new_only : (said : LineView) (r : Result A E) → Applies said old new step.NoMemory → IsErr r → PlaysOrStops r (effects_of said step.NoMemory) a b → GoodEnds said old new r a b
    new_only (registers k name) (Ok done) h e p = absurd (true≢false (sym e))
    new_only (registers k name) (Err want) h e p = p
    new_only (unregisters k name) r h e p = absurd h.0
    new_only (may_unlink k name) r h e p = absurd h.0
    new_only probes r h e p = absurd h.0

    go : (s : Step) → Applies said old new s → (s ≡ step.NoMemory → IsErr r) → PlaysOrStops r (effects_of said s) a b → GoodEnds said old new r a b
    go (step.Counted n) h none p = both (step.Counted n) r h.0 h.1 p
    go step.Dropped h none p = both step.Dropped r h.0 h.1 p
    go step.Remove h none p = both step.Remove r h.0 h.1 p
    go step.Unknown h none p = both step.Unknown r h.0 h.1 p
    go step.Nothing h none p = both step.Nothing r h.0 h.1 p
    go step.NoMemory h none p = new_only said r h (none refl) p

-- a line of the tracker
pub line_ends : (number : ℕ) (bytes : List ℕ) (said : LineView) (old new : CountsView) {A E : Type 0} (r : Result A E) (a b : Stage) → IsTrackerLine bytes said → GoodEnds said old new r a b
    → MatchResult r (λ done. LinePlays number bytes old new a b) (λ want. LineStops number bytes old a b)
line_ends number bytes said old new (Ok done) a b is p = record { read = Some said; reading = is; counts_is = p.0; plays = p.1 }
line_ends number bytes said old new (Err want) a b is p = record { read = Some said; reading = is; stops = p }

-- a bad line
pub bad_ends : (number : ℕ) (bytes : List ℕ) (old : CountsView) {A E : Type 0} (r : Result A E) (a b : Stage) → ((said : LineView) → ¬ (IsTrackerLine bytes said)) → PlaysOrStops r (line_effects number None old) a b
    → MatchResult r (λ done. LinePlays number bytes old old a b) (λ want. LineStops number bytes old a b)
bad_ends number bytes old (Ok done) a b bad p = record { read = None; reading = bad; counts_is = refl; plays = p }
bad_ends number bytes old (Err want) a b bad p = record { read = None; reading = bad; stops = p }

-- the resource of a line has a path
named_removable : (k : Kind) (name : List ℕ) → IsNameOfKind k name → IsRemovable k name
named_removable kind.File name h = (path_text-read name h.1).0
named_removable kind.Folder name h = (path_text-read name h.1).0
named_removable kind.Semlock name h = tt

-- the same of what a line says
pub said_removable : (bytes : List ℕ) (said : LineView) → IsTrackerLine bytes said → IsSaidRemovable said
said_removable bytes (registers k name) h = subst (IsRemovable k) (sym h.says.2) (named_removable k h.name h.says.3)
said_removable bytes (unregisters k name) h = subst (IsRemovable k) (sym h.says.2) (named_removable k h.name h.says.3)
said_removable bytes (may_unlink k name) h = subst (IsRemovable k) (sym h.says.2) (named_removable k h.name h.says.3)
said_removable bytes probes h = tt

-- the effects come about where less is told
pub plays_map : (s s' : Stage) (es : List Effect) (a b : StagePoint) → StageKeeps s s' → PlaysAt s' es a b → PlaysAt s es a b
plays_map s s' [] a b keeps p = p
plays_map s s' (e ∷ es) a b keeps p = (p.0, p.1, record { moves = λ t. p.2.moves (keeps.folder.told t); text = λ t. p.2.text (keeps.err.told t) }, plays_map s s' es p.1 b keeps p.3)

-- the same of an effect that was cut off
cut_map : (s s' : Stage) (es : List Effect) (a b : StagePoint) → StageKeeps s s' → CutFirst s' es a b → CutFirst s es a b
cut_map s s' [] a b keeps c = c
cut_map s s' (e ∷ es) a b keeps (inl c) = inl c
cut_map s s' (e ∷ es) a b keeps (inr c) = inr record { moves = λ t. c.moves (keeps.folder.told t); err_is = c.err_is }

-- the same of effects that stop
pub stops_map : (s s' : Stage) (es : List Effect) (a b : StagePoint) → StageKeeps s s' → StopsAt s' es a b → StopsAt s es a b
stops_map s s' es a b keeps q = record {
  first = q.first;
  rest = q.rest;
  split = q.split;
  mid = q.mid;
  plays = plays_map s s' q.first a q.mid keeps q.plays;
  cut = cut_map s s' q.rest q.mid b keeps q.cut;
}

-- effects after effects
plays_on : (s : Stage) (es fs : List Effect) (a m b : StagePoint) → PlaysAt s es a m → PlaysAt s fs m b → PlaysAt s (es ++ fs) a b
plays_on s [] fs a m b p q = subst (λ x. PlaysAt s fs x b) p q
plays_on s (e ∷ es) fs a m b p q = (p.0, p.1, p.2, plays_on s es fs p.1 m b p.3 q)

-- the same, where more is told at first
pub plays_trans : (es fs : List Effect) (a m b : Stage) → StageKeeps a m → Plays es a m → Plays fs m b → Plays (es ++ fs) a b
plays_trans es fs a m b keeps p q = plays_on a es fs (stage_point a) (stage_point m) (stage_point b) p (plays_map a m fs (stage_point m) (stage_point b) keeps q)

-- the same, where the later ones stop
pub plays_stops : (es fs : List Effect) (a m b : Stage) → StageKeeps a m → Plays es a m → Stops fs m b → Stops (es ++ fs) a b
plays_stops es fs a m b keeps p stops =
    let q = stops_map a m fs (stage_point m) (stage_point b) keeps stops in record {
      first = es ++ q.first;
      rest = q.rest;
      split = ap (λ l. es ++ l) q.split ∙ sym (append_assoc es q.first q.rest);
      mid = q.mid;
      plays = plays_on a es q.first (stage_point a) (stage_point m) q.mid p q.plays;
      cut = q.cut;
    }

-- more effects were to come
pub stops_before : (es fs : List Effect) (a b : Stage) → Stops es a b → Stops (es ++ fs) a b
stops_before es fs a b q = record {
  first = q.first;
  rest = q.rest ++ fs;
  split = ap (λ l. l ++ fs) q.split ∙ append_assoc q.first q.rest fs;
  mid = q.mid;
  plays = q.plays;
  cut = more q.rest q.cut;
}
  where
    more : (rest : List Effect) → CutFirst a rest q.mid (stage_point b) → CutFirst a (rest ++ fs) q.mid (stage_point b)
    more [] c = first_of fs c
      where
        first_of : (fs : List Effect) → stage_point b ≡ q.mid → CutFirst a fs q.mid (stage_point b)
        first_of [] c = c
        first_of (f ∷ fs) c = inl c
    more (e ∷ es) c = c

-- all of the effects came about, and then there was no memory
pub plays_stop : (es : List Effect) (a b : Stage) → Plays es a b → Stops es a b
plays_stop es a b p = record { first = es; rest = []; split = sym (append-nil es); mid = stage_point b; plays = p; cut = refl }

-- effects after effects, which end or stop
pub ends_then : (es fs : List Effect) (a m b : Stage) {A E : Type 0} (r : Result A E) → StageKeeps a m → Plays es a m → PlaysOrStops r fs m b → PlaysOrStops r (es ++ fs) a b
ends_then es fs a m b (Ok done) keeps p q = plays_trans es fs a m b keeps p q
ends_then es fs a m b (Err want) keeps p q = plays_stops es fs a m b keeps p q
