-- How the causes of warnings pass from the parts of a call to the whole.
use Rattle.std.proofs.Common.{◌≡◌, ◌⊎◌, inl, inr, ⊎_elim, ℕ, List, [], ◌∷◌, ◌++◌, sym, ap, subst, ◌∙◌, append_assoc, append-nil}
use Rattle.jl_text.specs.Counts.{Rose}
use Rattle.jl_text.specs.Paths.{PathView}
use Rattle.jl_folder.specs.State.{State, Trace, AtSome, place_at, node_at, run}
use Rattle.jl_folder.specs.Views.{FolderView, FolderKeeps, state, moved}
use Rattle.jl_folder.proofs.Traces.{run-append}
use Rattle.jl_folder.specs.Reading.{OpenedHas}
use Rattle.jl_value.specs.Key.{key_of}
use Rattle.jl_rely.specs.Steps.{AllSteps}
use Rattle.jl_rely.specs.Claims.{GoesOn, Anywhere}
use Rattle.jl_rely.specs.Touches.{TouchedByOther}
use Rattle.jl_rely.proofs.Since.{moved_then, state_after}
use Rattle.jl_rely.proofs.Traces.{AllSteps-left, AllSteps-right}
use Rattle.jl_rely.proofs.Causes.{touched_later, touched_sooner}
use Rattle.jl_protocol.specs.Proper.{IsProper}
use Rattle.jl_protocol.specs.Tidy.{IsTidy}
use Rattle.jl_protocol.proofs.Kills.{tidy_at_end}
use Rattle.jl_clear.proofs.DoingLemmas.{rose_later, later_rose}
use Rattle.jl_store.specs.Asked.{Asked, output_asked}
use Rattle.jl_store.specs.Warned.{IsOrderly, UsesCall, IsCaused, AreCaused, Warns}
use Rattle.jl_store.specs.Parts.{AreWarned, IsCausedFrom, WarnsFrom}
use Rattle.jl_store.specs.declared.memory.WarnKind.{WarnKind}
use Rattle.jl_store.specs.declared.memory.WarnKind.TheVariants.{LoadFault, StoreFault, NotMine, Damaged, Skipped}
use Rattle.jl_store.specs.declared.memory.Warning.{Warning}
use Rattle.jl_store.proofs.CheckLemmas.{at_more, opened_more}

-- ---- what was opened in a part of a call was opened in it

opened_right : (path : PathView) (P : List ℕ → Type 0) (s : State) (xs ys : Trace) → OpenedHas path P (run s xs) ys → OpenedHas path P s (xs ++ ys)
opened_right path P s xs ys o = record {
  before = xs ++ o.before;
  middle = o.middle;
  later = o.later;
  split = ap (λ (t : Trace). xs ++ t) o.split ∙ sym (append_assoc xs o.before (o.middle ++ o.later));
  node = o.node;
  named = ap (λ u. place_at u path) (run-append s xs o.before) ∙ o.named;
  view = o.view;
  node_is = ap (λ u. node_at u o.node) (ap (run s) (append_assoc xs o.before o.middle) ∙ run-append s xs (o.before ++ o.middle)) ∙ o.node_is;
  has = o.has;
}

-- and what held at some state of it, at some state of the whole
at_right : (s : State) (P : State → Type 0) (xs ys : Trace) → AtSome (run s xs) ys P → AtSome s (xs ++ ys) P
at_right s P xs ys at = (xs ++ at.0, at.1, ap (λ (t : Trace). xs ++ t) at.2 ∙ sym (append_assoc xs at.0 at.1), subst P (sym (run-append s xs at.0)) at.3)

module _ (old mid new : FolderView) (first : GoesOn old mid) (second : GoesOn mid new) where
  pub opened_sooner : (path : PathView) (P : List ℕ → Type 0) → OpenedHas path P (state old) (moved old mid) → OpenedHas path P (state old) (moved old new)
  opened_sooner path P o = subst (OpenedHas path P (state old)) (sym (moved_then old mid new first second)) (opened_more path P (state old) (moved old mid) (moved mid new) o)

  pub opened_later : (path : PathView) (P : List ℕ → Type 0) → OpenedHas path P (state mid) (moved mid new) → OpenedHas path P (state old) (moved old new)
  opened_later path P o =
      subst (OpenedHas path P (state old)) (sym (moved_then old mid new first second))
      (opened_right path P (state old) (moved old mid) (moved mid new) (subst (λ (s : State). OpenedHas path P s (moved mid new)) (state_after old mid first) o))

  pub at_sooner : (P : State → Type 0) → AtSome (state old) (moved old mid) P → AtSome (state old) (moved old new) P
  at_sooner P at = subst (λ (t : Trace). AtSome (state old) t P) (sym (moved_then old mid new first second)) (at_more (state old) (moved old mid) (moved mid new) P at)

  pub at_later : (P : State → Type 0) → AtSome (state mid) (moved mid new) P → AtSome (state old) (moved old new) P
  at_later P at =
      subst (λ (t : Trace). AtSome (state old) t P) (sym (moved_then old mid new first second))
      (at_right (state old) P (moved old mid) (moved mid new) (subst (λ (s : State). AtSome s (moved mid new) P) (state_after old mid first) at))

  all_parts : (root : PathView) → IsOrderly root old new → AllSteps (IsProper root) (state old) (moved old mid ++ moved mid new)
  all_parts root o = subst (AllSteps (IsProper root) (state old)) (moved_then old mid new first second) o.1

  -- where all keep order in the whole, they do in its parts
  pub orderly_sooner : (root : PathView) → IsOrderly root old new → IsOrderly root old mid
  orderly_sooner root o = (o.0, AllSteps-left (IsProper root) (state old) (moved old mid) (moved mid new) (all_parts root o))

  pub orderly_later : (root : PathView) → IsOrderly root old new → IsOrderly root mid new
  orderly_later root o =
      let front = orderly_sooner root o in (
        subst (IsTidy root) (sym (state_after old mid first)) (tidy_at_end root (state old) (moved old mid) first.lawful front.1 o.0),
        subst (λ (s : State). AllSteps (IsProper root) s (moved mid new)) (sym (state_after old mid first)) (AllSteps-right (IsProper root) (state old) (moved old mid) (moved mid new) (all_parts root o)),
      )

-- ---- lists of warnings

pub warned_as : (C D : WarnKind → Type 0) → ((k : WarnKind) → C k → D k) → (f key : List ℕ) (ws : List Warning) → AreWarned C f key ws → AreWarned D f key ws
unfolding AreWarned
warned_as C D g f key [] all = tt
warned_as C D g f key (w ∷ ws) all = ((all.0.0, all.0.1, g w.kind all.0.2), warned_as C D g f key ws all.1)

warned_append : (C : WarnKind → Type 0) (f key : List ℕ) (ws vs : List Warning) → AreWarned C f key ws → AreWarned C f key vs → AreWarned C f key (ws ++ vs)
unfolding AreWarned
warned_append C f key [] vs all more = more
warned_append C f key (w ∷ ws) vs all more = (all.0, warned_append C f key ws vs all.1 more)

pub warned_none : (C : WarnKind → Type 0) (f key : List ℕ) → AreWarned C f key []
unfolding AreWarned
warned_none C f key = tt

pub warned_one : (C : WarnKind → Type 0) (f key : List ℕ) (w : Warning) → w.name ≡ f → w.key.0 ≡ key → C w.kind → AreWarned C f key (w ∷ [])
unfolding AreWarned
warned_one C f key w named keyed caused = ((named, keyed, caused), tt)

-- ---- causes

module _ (a : Asked) where
  module _ (old mid new : FolderView) (mine : old.token ≡ a.token) (keeps : FolderKeeps old mid) (keeps' : FolderKeeps mid new) (first : old.told → GoesOn old mid) (second : mid.told → GoesOn mid new) where
    next : old.told → GoesOn mid new
    next t = second (keeps.told t)

    sooner : (t : old.told) → TouchedByOther a.token (UsesCall a) (moved old mid) → TouchedByOther a.token (UsesCall a) (moved old new)
    sooner t touched =
        subst (λ (u : List ℕ). TouchedByOther u (UsesCall a) (moved old new)) mine
        (touched_sooner (UsesCall a) old mid new (first t) (next t) (subst (λ (u : List ℕ). TouchedByOther u (UsesCall a) (moved old mid)) (sym mine) touched))

    later : (t : old.told) → TouchedByOther a.token (UsesCall a) (moved mid new) → TouchedByOther a.token (UsesCall a) (moved old new)
    later t touched =
        subst (λ (u : List ℕ). TouchedByOther u (UsesCall a) (moved old new)) mine
        (touched_later (UsesCall a) old mid new (first t) (next t) (subst (λ (u : List ℕ). TouchedByOther u (UsesCall a) (moved mid new)) (sym (keeps.token ∙ mine)) touched))

    rose_sooner : Rose old.faults mid.faults → Rose old.faults new.faults
    rose_sooner rose = rose_later old.faults mid.faults new.faults rose keeps'.later

    rose_then : Rose mid.faults new.faults → Rose old.faults new.faults
    rose_then rose = later_rose old.faults mid.faults new.faults keeps.later rose

    caused_sooner : (Ready : State → Type 0) → (k : WarnKind) → IsCausedFrom Ready k a old mid → IsCausedFrom Ready k a old new
    caused_sooner Ready LoadFault c = rose_sooner c
    caused_sooner Ready StoreFault c = rose_sooner c
    caused_sooner Ready NotMine c = λ t. opened_sooner old mid new (first t) (next t) (output_asked a) _ (c t)
    caused_sooner Ready Damaged c = (
      λ t. opened_sooner old mid new (first t) (next t) (output_asked a) _ (c.0 t),
      λ t orderly. c.1 t (orderly_sooner old mid new (first t) (next t) a.root orderly),
    )
    caused_sooner Ready Skipped c = λ t orderly ready.
        ⊎_elim
        (λ (touched : TouchedByOther a.token (UsesCall a) (moved old mid)). inl (sooner t touched))
        (λ (rose : Rose old.faults mid.faults). inr (rose_sooner rose))
        (c t (orderly_sooner old mid new (first t) (next t) a.root orderly) ready)

    -- what the first part leaves is what the second was begun with, or another moved, or a fault rose
    abbrev pub LeavesReady : (Ready Ready' : State → Type 0) → Type 0
    LeavesReady Ready Ready' = old.told → IsOrderly a.root old mid → Ready (state old) → Ready' (state mid) ⊎ (TouchedByOther a.token (UsesCall a) (moved old mid) ⊎ Rose old.faults mid.faults)

    caused_later : (Ready Ready' : State → Type 0) → LeavesReady Ready Ready' → (k : WarnKind) → IsCausedFrom Ready' k a mid new → IsCausedFrom Ready k a old new
    caused_later Ready Ready' between LoadFault c = rose_then c
    caused_later Ready Ready' between StoreFault c = rose_then c
    caused_later Ready Ready' between NotMine c = λ t. opened_later old mid new (first t) (next t) (output_asked a) _ (c (keeps.told t))
    caused_later Ready Ready' between Damaged c = (
      λ t. opened_later old mid new (first t) (next t) (output_asked a) _ (c.0 (keeps.told t)),
      λ t orderly. c.1 (keeps.told t) (orderly_later old mid new (first t) (next t) a.root orderly),
    )
    caused_later Ready Ready' between Skipped c = λ t orderly ready.
        ⊎_elim
        (λ (ready' : Ready' (state mid)).
        ⊎_elim
        (λ (touched : TouchedByOther a.token (UsesCall a) (moved mid new)). inl (later t touched))
        (λ (rose : Rose mid.faults new.faults). inr (rose_then rose))
        (c (keeps.told t) (orderly_later old mid new (first t) (next t) a.root orderly) ready'))
        (λ (why : TouchedByOther a.token (UsesCall a) (moved old mid) ⊎ Rose old.faults mid.faults).
        ⊎_elim
        (λ (touched : TouchedByOther a.token (UsesCall a) (moved old mid)). inl (sooner t touched))
        (λ (rose : Rose old.faults mid.faults). inr (rose_sooner rose))
        why)
        (between t (orderly_sooner old mid new (first t) (next t) a.root orderly) ready)

    -- the warnings of one part, and then those of the next
    pub warns_then : (Ready Ready' : State → Type 0) (ws ws1 ws2 : List Warning) → LeavesReady Ready Ready' → WarnsFrom Ready a ws ws1 old mid → WarnsFrom Ready' a ws1 ws2 mid new → WarnsFrom Ready a ws ws2 old new
    warns_then Ready Ready' ws ws1 ws2 between x y = (
      x.0 ++ y.0,
      y.1 ∙ ap (λ (l : List Warning). l ++ y.0) x.1 ∙ append_assoc ws x.0 y.0,
      warned_append _ _ _ x.0 y.0
          (warned_as _ _ (λ k c. caused_sooner Ready k c) _ _ x.0 x.2)
          (warned_as _ _ (λ k c. caused_later Ready Ready' between k c) _ _ y.0 y.2),
    )

  -- a part without warnings
  pub warns_none : (Ready : State → Type 0) (ws ws' : List Warning) (old new : FolderView) → ws' ≡ ws → WarnsFrom Ready a ws ws' old new
  warns_none Ready ws ws' old new e = ([], e ∙ sym (append-nil ws), warned_none _ _ _)

  -- ---- the whole

  module _ (old new : FolderView) where
    caused_whole : (k : WarnKind) → IsCausedFrom Anywhere k a old new → IsCaused k a old new
    caused_whole LoadFault c = c
    caused_whole StoreFault c = c
    caused_whole NotMine c = c
    caused_whole Damaged c = c
    caused_whole Skipped c = λ t orderly. c t orderly tt

    all_caused : (ws : List Warning) → AreWarned (λ kind. IsCausedFrom Anywhere kind a old new) a.function_name (key_of a.args) ws → AreCaused ws a old new
    unfolding AreWarned AreCaused
    all_caused [] all = tt
    all_caused (w ∷ ws) all = ((all.0.0, all.0.1, caused_whole w.kind all.0.2), all_caused ws all.1)

    pub warns_whole : (ws ws' : List Warning) → WarnsFrom Anywhere a ws ws' old new → Warns a ws ws' old new
    warns_whole ws ws' x = (x.0, x.1, all_caused x.0 x.2)

-- a call without warnings
pub no_warnings : (a : Asked) (ws ws' : List Warning) (old new : FolderView) → ws' ≡ ws → Warns a ws ws' old new
no_warnings a ws ws' old new e = warns_whole a old new ws ws' (warns_none a Anywhere ws ws' old new e)
