-- What reading and reducing promise.
use Rattle.std.proofs.Common.{◌≡◌, ◌⊎◌, inl, inr, ⊎_elim, ℕ, ◌+◌, Result, Ok, List, [], ◌∷◌, ◌++◌, take, drop, length-take, refl, sym, ap, subst, ◌∙◌, arith, Contains}
use Rattle.std.specs.Prelude.{⊤}
use Rattle.std.proofs.lemmas.List.{take-append-drop}
use Rattle.std.proofs.lemmas.List.Sorted.{Contains-permutation, IsPermutation-sym}
use Rattle.std.specs.List.Sorted.{IsPermutation}
use Rattle.std.proofs.lemmas.List.Elements.{Contains-append_cases, Contains-append_left}
use Rattle.jl_text.specs.Paths.{PathView, path_of}
use Rattle.jl_folder.specs.State.{IsState}
use Rattle.jl_folder.specs.Views.{FolderView, FolderAnswers, state, moved}
use Rattle.jl_folder.specs.Calls.{Waits}
use Rattle.jl_folder.proofs.Frames.{answers_as}
use Rattle.jl_entry.specs.Names.{IsBelow, below, IsEntryFolder}
use Rattle.jl_rely.specs.Claims.{Anywhere, AnyMove, Moves}
use Rattle.jl_rely.specs.Steps.{IsLone}
use Rattle.jl_rely.proofs.Composed.{goes_waits, called_for, called_keeps}
use Rattle.jl_rely.proofs.Alone.{lone_parts}
use Rattle.jl_rely.proofs.Moving.{moves_waits, moves_as, moves_called}
use Rattle.jl_rely.proofs.Seen.{sooner}
use Rattle.jl_quota.specs.declared.limits.Limits.{Limits}
use Rattle.jl_protocol.specs.Whole.{CodeAnswers}
use Rattle.jl_protocol.specs.Proper.{IsProper, IsLawful}
use Rattle.jl_protocol.specs.Tidy.{IsSound}
use Rattle.jl_protocol.proofs.Kills.{sound_carried}
use Rattle.jl_clear.specs.declared.removing.Clear.{Clear}
use Rattle.jl_clear.specs.declared.removing.Clear.TheVariants.{Cleared, Fault}
use Rattle.jl_clear.specs.Taking.{IsTaking}
use Rattle.jl_clear.specs.declared.stop.Stop.{Stop}
use Rattle.jl_clear.specs.Clearing.{Clears}
use Rattle.jl_clear.proofs.Paths.{below_more}
use Rattle.jl_clear.proofs.Parts.{clears_none, clears_as, clears_wider, clears_then}
use Rattle.jl_clear.proofs.Removals.{taking_as, taking_proper, taking_lawful}
use Rattle.jl_clear.proofs.Claims.{claims}
use Rattle.jl_evict.specs.declared.item.Item.{Item}
use Rattle.jl_evict.specs.Items.{IsItemPath, AreItems, AreSeen, WereItems}
use Rattle.jl_evict.specs.Walks.{Adds}
use Rattle.jl_evict.specs.declared.reducing.Reduced.{Reduced}
use Rattle.jl_evict.specs.declared.reducing.Reduced.TheVariants as reduced
use Rattle.jl_evict.specs.Reducing.{ArePaths, IsOf, IsOfEntry, Chosen, clear_of_reduced, TakesFrom, EvictsOf, Evicts, Reduces}
use Rattle.jl_evict.proofs.FoundLemmas.{only_among}
use Rattle.jl_evict.proofs.Naming.{item_parts}
use Rattle.jl_evict.proofs.SeenLemmas.{seen_as, found_alone, are_lasting}
use Rattle.jl_evict.proofs.Silence.{silent_waits, still}

-- ---- reading

all_below : (parts : PathView) → IsBelow [] parts
unfolding IsBelow
all_below parts = (parts, refl)

module _ (root : PathView) (r : Result ⊤ Stop) (before after : List Item) (old new : FolderView) (a : Adds root ⊤ (IsBelow []) r before after old new) where
  pub read_waits : old.told → Waits old new
  read_waits t = silent_waits old new (a.moves t)

  all_added : before ≡ [] → after ≡ a.added
  all_added none = a.are ∙ ap (λ (xs : List Item). xs ++ a.added) none

  pub read_paths : before ≡ [] → ArePaths after
  read_paths none = subst ArePaths (sym (all_added none)) a.paths

  pub read_seen : before ≡ [] → old.told → r ≡ Ok tt → IsState (state old) → WereItems root after (state old) (moved old new)
  read_seen none t done ok =
      subst (λ (xs : List Item). WereItems root xs (state old) (moved old new)) (sym (all_added none))
      (seen_as root (state old) (moved old new) (IsBelow []) (λ parts. ⊤) a.added (λ parts form of. tt) (λ parts form each of. all_below parts) (a.found t done ok tt))

  pub read_alone : before ≡ [] → old.told → r ≡ Ok tt → IsLone old.token (moved old new) → IsState (state old) → AreItems root (state old) after
  read_alone none t done lone ok = found_alone root (λ parts. ⊤) after (state old) (moved old new) (still old new (a.moves t) lone) (read_seen none t done ok)

-- ---- the items' folders

pub item_folder : (root folder : PathView) (path : List ℕ) → IsItemPath path → folder ≡ below root (path_of path) → IsEntryFolder root folder
item_folder root folder path of e =
    let form = of.1 in (form.0, form.1, form.2, form.3, form.4, form.5, e ∙ ap (λ (q : PathView). below root q) (item_parts path of ∙ form.6))

pub chosen_entry : (root : PathView) (items : List Item) → ArePaths items → (p : PathView) → Chosen root items p → IsOfEntry root p
chosen_entry root items paths p (item, among, of) =
    let is = paths item among in (is.0, is.1, subst (λ (q : PathView). IsBelow (below root q) p) (item_parts item.path is) of)

pub paths_front : (items : List Item) (k : ℕ) → ArePaths items → ArePaths (take k items)
paths_front items k paths item among = paths item (subst (λ (xs : List Item). Contains xs item) (take-append-drop k items) (Contains-append_left (take k items) (drop k items) item among))

chosen_more : (root : PathView) (items : List Item) (i : ℕ) (item : Item) → take (i + 1) items ≡ take i items ++ item ∷ [] → (p : PathView) → Chosen root (take (i + 1) items) p → Chosen root (take i items) p ⊎ IsOf root item p
chosen_more root items i item grown p (x, among, of) =
    ⊎_elim
    (λ (old : Contains (take i items) x). inl (x, old, of))
    (λ (new : Contains (item ∷ []) x). inr (subst (λ (y : Item). IsOf root y p) (only_among item x new) of))
    (Contains-append_cases (take i items) (item ∷ []) x (subst (λ (xs : List Item). Contains xs x) grown among))

-- ---- taking them away

module _ (root : PathView) (items : List Item) where
  pub chosen_start : (v : FolderView) → Clears root Anywhere (Chosen root items) (Chosen root (take 0 items)) (Chosen root (take 0 items)) Cleared v v
  chosen_start v = clears_none root Anywhere (Chosen root items) (Chosen root (take 0 items)) (Chosen root (take 0 items)) Cleared v (λ f. cc) (λ done p w. omega (arith, w.1.1, length-take 0 items)) (λ done p g. omega (arith, g.1.1, length-take 0 items))

  pub chosen_one : (item : Item) (answer : Clear) (old new : FolderView) → Contains items item → Clears root Anywhere (IsOf root item) (IsOf root item) (IsOf root item) answer old new → Clears root Anywhere (Chosen root items) (IsOf root item) (IsOf root item) answer old new
  chosen_one item answer old new among b = clears_wider root Anywhere (IsOf root item) (Chosen root items) (IsOf root item) (IsOf root item) answer old new (λ p may. (item, among, may)) b

  pub chosen_next : (i : ℕ) (item : Item) (old mid new : FolderView) → take (i + 1) items ≡ take i items ++ item ∷ [] → Contains items item → Clears root Anywhere (Chosen root items) (Chosen root (take i items)) (Chosen root (take i items)) Cleared old mid → Clears root Anywhere (IsOf root item) (IsOf root item) (IsOf root item) Cleared mid new → Clears root Anywhere (Chosen root items) (Chosen root (take (i + 1) items)) (Chosen root (take (i + 1) items)) Cleared old new
  chosen_next i item old mid new grown among a b =
      let Front : PathView → Type 0 = Chosen root (take i items) in
      let More : PathView → Type 0 = Chosen root (take (i + 1) items) in
      let Both : PathView → Type 0 = λ p. Front p ⊎ IsOf root item p in
      clears_as root Anywhere Anywhere (Chosen root items) (Chosen root items) Both More Both More Cleared old new (λ s pre. pre) (λ p may. may) (λ p name w. chosen_more root items i item grown p w) (λ p store g. chosen_more root items i item grown p g)
      (clears_then root Anywhere (Chosen root items) Front (IsOf root item) Front (IsOf root item) Cleared old mid new a (chosen_one item Cleared mid new among b))

-- those of items that were read are paths in any order
pub paths_chosen : (read items : List Item) (k : ℕ) → IsPermutation read items → ArePaths read → ArePaths (take k items)
paths_chosen read items k same paths = paths_front items k (λ item among. paths item (Contains-permutation items read item (IsPermutation-sym read items same) among))

-- ---- by the answer

pub fault_of : (r : Reduced) → clear_of_reduced r ≡ Fault → r ≡ reduced.FolderFault
fault_of (reduced.Report deleted bytes) f = cc
fault_of reduced.FolderFault f = refl
fault_of reduced.NoMemory f = cc

evicts_of : (root : PathView) (limits : Limits) (moment : ℕ) (r : Reduced) (old new : FolderView) → (clear_of_reduced r ≡ Cleared → EvictsOf root limits moment r old new) → Evicts root limits moment r old new
evicts_of root limits moment (reduced.Report deleted bytes) old new of = of refl
evicts_of root limits moment reduced.FolderFault old new of = tt
evicts_of root limits moment reduced.NoMemory old new of = tt

-- own moves in the entries' folders alone are proper and lawful in every state
pub moves_reduce : (root : PathView) (limits : Limits) (moment : ℕ) (r : Reduced) (old new : FolderView) → Moves (IsTaking root (IsOfEntry root)) old new → Evicts root limits moment r old new → Reduces root limits moment r old new
moves_reduce root limits moment r old new moves evicts = record {
  called = moves_called (IsProper root) (IsProper root) (IsTaking root (IsOfEntry root)) Anywhere old new (taking_proper root (IsOfEntry root) old.token) moves;
  lawful = λ (answers : CodeAnswers).
      called_for (IsLawful root answers) (IsLawful root answers) (IsTaking root (IsOfEntry root)) AnyMove (λ s. IsSound root answers s × Anywhere s) (IsSound root answers) (λ s. IsSound root answers s × Anywhere s) (IsSound root answers) old new
      (λ m is. tt) (λ s sound. (sound, tt)) (λ s both. both.0)
      (called_keeps (IsLawful root answers) (IsLawful root answers) (IsTaking root (IsOfEntry root)) (IsSound root answers) Anywhere Anywhere old new (sound_carried root answers)
      (moves_called (IsLawful root answers) (IsLawful root answers) (IsTaking root (IsOfEntry root)) Anywhere old new (taking_lawful root answers (IsOfEntry root) old.token) moves));
  evicts = evicts;
}

-- ---- reading, and then taking away

-- no path
abbrev NoPath : PathView → Type 0
NoPath p = ⊥

module _ (root : PathView) (old mid : FolderView) {Fails : Type 0} (frame : FolderAnswers Fails old mid) (waits : old.told → Waits old mid) where
  -- nothing was taken away
  pub untaken : (limits : Limits) (moment : ℕ) (r : Reduced) → (clear_of_reduced r ≡ Cleared → ⊥) → old.told → Reduces root limits moment r old mid
  untaken limits moment r undone t = moves_reduce root limits moment r old mid (moves_waits (IsTaking root (IsOfEntry root)) old mid frame.token (waits t)) (evicts_of root limits moment r old mid (λ done. absurd (undone done)))

  module _ (well : Fails → ⊥) (read : List Item) (limits : Limits) (moment : ℕ) (r : Reduced) (new : FolderView) (b : TakesFrom root read limits moment r mid new) where
    abbrev Of : PathView → Type 0
    Of = Chosen root (take b.count b.items)

    waited : Clears root Anywhere Of NoPath NoPath Cleared old mid
    waited = record {
      frame = answers_as old mid frame (λ e. cc) (λ f. absurd (well f));
      moves = λ t. moves_waits (IsTaking root Of) old mid frame.token (waits t);
      went = λ t done ok p none. absurd none;
      alone = λ t done ok lone pre p none. absurd none;
    }

    both : Clears root Anywhere Of Of Of (clear_of_reduced r) old new
    both =
        clears_as root Anywhere Anywhere Of Of (λ p. NoPath p ⊎ Of p) Of (λ p. NoPath p ⊎ Of p) Of (clear_of_reduced r) old new (λ s pre. pre) (λ p may. may) (λ p name w. inr w) (λ p store g. inr g)
        (clears_then root Anywhere Of NoPath Of NoPath Of (clear_of_reduced r) old mid new waited b.clears)

    pub taken_frame : FolderAnswers (r ≡ reduced.FolderFault) old new
    taken_frame = answers_as old new both.frame (λ e. ap clear_of_reduced e) (fault_of r)

    pub taken : (t : old.told) → IsState (state old) → WereItems root read (state old) (moved old mid) → (IsLone old.token (moved old mid) → AreItems root (state old) read) → Reduces root limits moment r old new
    taken t ok seen are =
        let first = goes_waits old mid frame.token (waits t) in
        let second = (b.clears.moves (frame.told t)).went in
        let all = claims root Of (clear_of_reduced r) old new both t ok (λ p of. let e = chosen_entry root (take b.count b.items) b.paths p of in below_more root e.0 p e.2) in
        moves_reduce root limits moment r old new (moves_as (IsTaking root Of) (IsTaking root (IsOfEntry root)) (taking_as root Of (IsOfEntry root) (chosen_entry root (take b.count b.items) b.paths)) old new (both.moves t))
        (evicts_of root limits moment r old new
        (λ done. record {
          read = read;
          seen = sooner (AreSeen root (λ parts. ⊤) read) (are_lasting root (λ parts. ⊤) read) old mid new first second seen;
          items = b.items;
          same = b.same;
          count = b.count;
          choice = b.choice;
          reports = b.reports;
          own = (both.moves t).own;
          went = both.went t done ok;
          are = λ lone. are (lone_parts old mid new first second lone).0;
          alone = λ lone. all.alone done lone;
          tidy = λ lone tidy. all.tidy done lone tidy;
        }))
