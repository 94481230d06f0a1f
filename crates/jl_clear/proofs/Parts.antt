-- Parts of a clearing, one after another.
use Rattle.std.proofs.Common.{◌≡◌, ◌⊎◌, inl, inr, ⊎_elim, ℕ, zero, suc, ◌+◌, List, [], ◌∷◌, ◌++◌, false, refl, sym, ap, subst, ◌∙◌, arith, take, length-take, Contains, Result, Err}
use Rattle.std.specs.Prelude.{⊤}
use Rattle.std.specs.Result.{IsErrAnd}
use Rattle.std.proofs.lemmas.List.Elements.{Contains-append_cases}
use Rattle.jl_text.specs.Paths.{PathView}
use Rattle.jl_folder.specs.declared.listing.Name.{Name}
use Rattle.jl_folder.specs.declared.folder.Removed.{Removed}
use Rattle.jl_folder.specs.declared.folder.Removed.TheVariants as removed
use Rattle.jl_folder.specs.declared.folder.RemovedDir.{RemovedDir}
use Rattle.jl_folder.specs.declared.folder.RemovedDir.TheVariants as removed_dir
use Rattle.jl_folder.specs.State.{State, is_folder, is_file}
use Rattle.jl_folder.specs.Views.{FolderView, FolderAnswers, state, moved}
use Rattle.jl_folder.specs.Calls.{Call, RemovesFile, RemovesFolder}
use Rattle.jl_folder.proofs.Frames.{answers_next, answers_as, answers_none}
use Rattle.jl_entry.specs.Names.{IsStoreName, IsStoreFolder, IsBelow, IsKeyName, IsCodeName}
use Rattle.jl_rely.specs.Claims.{Anywhere}
use Rattle.jl_rely.proofs.Alone.{moves_alone, lone_parts}
use Rattle.jl_rely.proofs.Moving.{moves_none, moves_then, moves_as, moves_call}
use Rattle.jl_rely.proofs.Seen.{state_new, some_sooner, some_later, some_as}
use Rattle.jl_clear.specs.declared.levels.Level.{Level}
use Rattle.jl_clear.specs.declared.levels.Kind.{Kind}
use Rattle.jl_clear.specs.declared.stop.Stop.{Stop}
use Rattle.jl_clear.specs.declared.stop.Stop.TheVariants.{NoMemory}
use Rattle.jl_clear.specs.Removing.{answer_of, clear_of, clear_of_folder}
use Rattle.jl_clear.proofs.Stops.{err_is, stop_undone}
use Rattle.jl_clear.specs.declared.removing.Clear.{Clear}
use Rattle.jl_clear.specs.declared.removing.Clear.TheVariants.{Cleared, Fault}
use Rattle.jl_clear.proofs.RemovingLemmas.{remove_kinds, remove_dir_kinds, clear_fault, clear_folder_fault}
use Rattle.jl_clear.specs.Taking.{IsTaking, IsInside}
use Rattle.jl_clear.specs.Levels.{IsFunctionPart, IsInnerName, IsKindName}
use Rattle.jl_clear.specs.Clearing.{IsPlace, IsEmptied, NoPath, ClearsPart, Handled, Reached, Clears}
use Rattle.jl_clear.proofs.Paths.{below_self, here_or_inside, no_folder, reached_below}
use Rattle.jl_clear.proofs.Folders.{below_name, name_not_folder}
use Rattle.jl_clear.proofs.Thinning.{thinned_alone, none_stays, no_folder_stays, only_stays}
use Rattle.jl_clear.proofs.Removals.{takes_name, takes_folder, taking_as, file_away, folder_gone}

-- of one name more, each was among those before or is that name
handled_more : (Form : List ℕ → Type 0) (folder : PathView) (names : List Name) (i : ℕ) (item : Name) → take (i + 1) names ≡ take i names ++ item ∷ [] → (p : PathView) → Handled Form folder (take (i + 1) names) p → Handled Form folder (take i names) p ⊎ ClearsPart Form folder item.part p
handled_more Form folder names i item grown p (name, among, of) =
    ⊎_elim
    (λ (old : Contains (take i names) name). inl (name, old, of))
    (λ (new : Contains (item ∷ []) name). inr (subst (λ (n : Name). ClearsPart Form folder n.part p) (only item name new) of))
    (Contains-append_cases (take i names) (item ∷ []) name (subst (λ (ns : List Name). Contains ns name) grown among))
  where
    only : (x y : Name) → Contains (x ∷ []) y → y ≡ x
    only x y (zero, lt, e) = sym e
    only x y (suc k, lt, e) = absurd (omega (arith, lt))

module _ (root : PathView) where
  -- nothing was done, as nothing was there or since it wasn't done
  pub clears_none : (Pre : State → Type 0) (May Went Gone : PathView → Type 0) (answer : Clear) (v : FolderView) → (answer ≡ Fault → ⊥) → (answer ≡ Cleared → (p : PathView) → Went p → ⊥) → (answer ≡ Cleared → (p : PathView) → Gone p → ⊥) → Clears root Pre May Went Gone answer v v
  clears_none Pre May Went Gone answer v faultless no_name no_place = record {
    frame = answers_as v v (answers_none v) faultless (λ f. absurd f);
    moves = λ t. moves_none (IsTaking root May) v;
    went = λ t done ok p w name. absurd (no_name done p w);
    alone = λ t done ok lone pre p g store only. absurd (no_place done p g);
  }

  -- what wasn't done
  pub clears_undone : (Pre Pre' : State → Type 0) (May Went Went' Gone Gone' : PathView → Type 0) (answer : Clear) (old new : FolderView) → (answer ≡ Cleared → ⊥) → Clears root Pre May Went Gone answer old new → Clears root Pre' May Went' Gone' answer old new
  clears_undone Pre Pre' May Went Went' Gone Gone' answer old new undone a = record {
    frame = a.frame;
    moves = a.moves;
    went = λ t done. absurd (undone done);
    alone = λ t done. absurd (undone done);
  }

  -- of fewer paths, from a stronger beginning, where more may go
  pub clears_as : (Pre Pre' : State → Type 0) (May May' Went Went' Gone Gone' : PathView → Type 0) (answer : Clear) (old new : FolderView) → ((s : State) → Pre' s → Pre s) → ((p : PathView) → May p → May' p) → ((p : PathView) → IsStoreName root p → Went' p → Went p) → ((p : PathView) → IsStoreFolder root p → Gone' p → Gone p) → Clears root Pre May Went Gone answer old new → Clears root Pre' May' Went' Gone' answer old new
  clears_as Pre Pre' May May' Went Went' Gone Gone' answer old new pre may went gone a = record {
    frame = a.frame;
    moves = λ t. moves_as (IsTaking root May) (IsTaking root May') (taking_as root May May' may) old new (a.moves t);
    went = λ t done ok p w name. a.went t done ok p (went p name w) name;
    alone = λ t done ok lone p' p g store only. a.alone t done ok lone (pre (state old) p') p (gone p store g) store only;
  }

  -- where more may go
  pub clears_wider : (Pre : State → Type 0) (May May' Went Gone : PathView → Type 0) (answer : Clear) (old new : FolderView) → ((p : PathView) → May p → May' p) → Clears root Pre May Went Gone answer old new → Clears root Pre May' Went Gone answer old new
  clears_wider Pre May May' Went Gone answer old new may a = clears_as Pre Pre May May' Went Went Gone Gone answer old new (λ s pre. pre) may (λ p name w. w) (λ p store g. g) a

  -- one after the other
  pub clears_then : (Pre : State → Type 0) (May Went Went' Gone Gone' : PathView → Type 0) (answer : Clear) (old mid new : FolderView) → Clears root Pre May Went Gone Cleared old mid → Clears root Anywhere May Went' Gone' answer mid new → Clears root Pre May (λ p. Went p ⊎ Went' p) (λ p. Gone p ⊎ Gone' p) answer old new
  clears_then Pre May Went Went' Gone Gone' answer old mid new a b = record {
    frame = answers_next old mid new a.frame (λ e. cc) b.frame (λ f. f) (λ f. f);
    moves = λ t. moves_then (IsTaking root May) old mid new (a.moves t) (b.moves (a.frame.told t));
    went = λ t done ok p w name.
        let first = (a.moves t).went in
        let second = (b.moves (a.frame.told t)).went in
        ⊎_elim
        (λ (w : Went p). some_sooner (λ s. is_file s p ≡ false) old mid new first second (a.went t refl ok p w name))
        (λ (w : Went' p). some_later (λ s. is_file s p ≡ false) old mid new first second (b.went (a.frame.told t) done (state_new old mid first ok) p w name))
        w;
    alone = λ t done ok lone pre p g store only.
        let t' = a.frame.told t in
        let first = a.moves t in
        let second = b.moves t' in
        let parts = lone_parts old mid new first.went second.went lone in
        ⊎_elim
        (λ (g : Gone p). no_folder_stays root May (state mid) (state new) (thinned_alone root May mid new second parts.1) p (a.alone t refl ok parts.0 pre p g store only))
        (λ (g : Gone' p). b.alone t' done (state_new old mid first.went ok) parts.1 tt p g store (only_stays root May (state old) (state mid) (thinned_alone root May old mid first parts.0) p only))
        g;
  }

  -- and where the second didn't clear
  pub clears_stop : (Pre Pre' Pre'' : State → Type 0) (May Went Went' Went'' Gone Gone' Gone'' : PathView → Type 0) (answer : Clear) (old mid new : FolderView) → (answer ≡ Cleared → ⊥) → Clears root Pre May Went Gone Cleared old mid → Clears root Pre' May Went' Gone' answer mid new → Clears root Pre'' May Went'' Gone'' answer old new
  clears_stop Pre Pre' Pre'' May Went Went' Went'' Gone Gone' Gone'' answer old mid new undone a b = record {
    frame = answers_next old mid new a.frame (λ e. cc) b.frame (λ f. f) (λ f. f);
    moves = λ t. moves_then (IsTaking root May) old mid new (a.moves t) (b.moves (a.frame.told t));
    went = λ t done. absurd (undone done);
    alone = λ t done. absurd (undone done);
  }

  -- a stop is handed on
  pub clears_err : (Pre Pre' : State → Type 0) (May Went Went' Gone Gone' : PathView → Type 0) (r : Result ⊤ Stop) (e : Stop) (old new : FolderView)
      → IsErrAnd r (λ f. f ≡ e) → Clears root Pre May Went Gone (answer_of (Err e)) old new
      → Clears root Pre' May Went' Gone' (answer_of r) old new
  clears_err Pre Pre' May Went Went' Gone Gone' r e old new is a =
      subst (λ (x : Result ⊤ Stop). Clears root Pre' May Went' Gone' (answer_of x) old new) (sym (err_is r e is))
      (clears_undone Pre Pre' May Went Went' Gone Gone' (answer_of (Err e)) old new (stop_undone e) a)

  -- and so is one of the second part
  pub clears_stopped : (Pre Pre' Pre'' : State → Type 0) (May Went Went' Went'' Gone Gone' Gone'' : PathView → Type 0) (r : Result ⊤ Stop) (e : Stop) (old mid new : FolderView)
      → IsErrAnd r (λ f. f ≡ e) → Clears root Pre May Went Gone Cleared old mid
      → Clears root Pre' May Went' Gone' (answer_of (Err e)) mid new
      → Clears root Pre'' May Went'' Gone'' (answer_of r) old new
  clears_stopped Pre Pre' Pre'' May Went Went' Went'' Gone Gone' Gone'' r e old mid new is a b =
      subst (λ (x : Result ⊤ Stop). Clears root Pre'' May Went'' Gone'' (answer_of x) old new) (sym (err_is r e is))
      (clears_stop Pre Pre' Pre'' May Went Went' Went'' Gone Gone' Gone'' (answer_of (Err e)) old mid new (stop_undone e) a b)

  -- there was no memory for a path
  pub clears_memory : (Pre : State → Type 0) (May Went Gone : PathView → Type 0) (r : Result ⊤ Stop) (v : FolderView)
      → IsErrAnd r (λ f. f ≡ NoMemory) → Clears root Pre May Went Gone (answer_of r) v v
  clears_memory Pre May Went Gone r v is =
      subst (λ (x : Result ⊤ Stop). Clears root Pre May Went Gone (answer_of x) v v) (sym (err_is r NoMemory is))
      (clears_none Pre May Went Gone (answer_of (Err NoMemory)) v (λ f. cc) (λ done. cc) (λ done. cc))

  -- one file
  pub clears_file : (p : PathView) (r : Removed) (answer : Clear) (old new : FolderView) → answer ≡ clear_of r → IsStoreName root p → FolderAnswers (r ≡ removed.Failed) old new → (old.told → Call old new (RemovesFile p r)) → Clears root Anywhere (IsBelow p) (IsBelow p) (IsBelow p) answer old new
  clears_file p r answer old new answers name frame call = record {
    frame = answers_as old new frame (λ f. clear_fault r (sym answers ∙ f)) (λ f. answers ∙ ap clear_of f);
    moves = λ t. moves_call (IsTaking root (IsBelow p)) old new (RemovesFile p r) (λ s own gives. remove_kinds (IsTaking root (IsBelow p)) p (takes_name root (IsBelow p) p name (below_self p)) r s own gives) frame.token (call t);
    went = λ t done ok q below of.
        let here : q ≡ p = below_name root p q name below (inl of) in
        some_as (state old) (moved old new) (λ s. is_file s p ≡ false) (λ s. is_file s q ≡ false) (λ s away. ap (is_file s) here ∙ away) (file_away p r old new frame.token (call t) (sym answers ∙ done));
    alone = λ t done ok lone pre q below store only.
        absurd (name_not_folder root q (subst (IsStoreName root) (sym (below_name root p q name below (inr store))) name) store);
  }

  -- one folder
  pub clears_folder : (p : PathView) (r : RemovedDir) (answer : Clear) (old new : FolderView) → answer ≡ clear_of_folder r → IsPlace root p → FolderAnswers (r ≡ removed_dir.Failed) old new → (old.told → Call old new (RemovesFolder p r)) → Clears root (IsEmptied p) (IsBelow p) NoPath (IsBelow p) answer old new
  clears_folder p r answer old new answers place frame call =
      let moves : (t : old.told) → _ = λ t. moves_call (IsTaking root (IsBelow p)) old new (RemovesFolder p r) (λ s own gives. remove_dir_kinds (IsTaking root (IsBelow p)) p (takes_folder root (IsBelow p) p place.0 (below_self p)) r s own gives) frame.token (call t) in
      record {
        frame = answers_as old new frame (λ f. clear_folder_fault r (sym answers ∙ f)) (λ f. answers ∙ ap clear_of_folder f);
        moves = moves;
        went = λ t done ok q none. absurd none;
        alone = λ t done ok lone bare q below store only.
            ⊎_elim
            (λ (here : q ≡ p). ap (is_folder (state new)) here ∙ folder_gone p r old new place.1 bare (moves_alone old new (RemovesFolder p r) (call t) lone) (sym answers ∙ done))
            (λ (inside : IsInside p q). no_folder (state new) q (none_stays root (IsBelow p) (state old) (state new) (thinned_alone root (IsBelow p) old new (moves t) lone) q (bare q inside)))
            (here_or_inside p q below);
      }

  -- ---- names of a folder

  -- what stands in a folder at one part
  pub clears_part : (Form : List ℕ → Type 0) (folder path : PathView) (part : List ℕ) (May : PathView → Type 0) (answer : Clear) (old new : FolderView) → path ≡ folder ++ part ∷ [] → ((p : PathView) → IsBelow (folder ++ part ∷ []) p → May p) → Clears root Anywhere (IsBelow path) (IsBelow path) (IsBelow path) answer old new → Clears root Anywhere May (ClearsPart Form folder part) (ClearsPart Form folder part) answer old new
  clears_part Form folder path part May answer old new e may a =
      clears_as Anywhere Anywhere (IsBelow path) May (IsBelow path) (ClearsPart Form folder part) (IsBelow path) (ClearsPart Form folder part) answer old new (λ s pre. pre)
      (λ p is. may p (subst (λ (q : PathView). IsBelow q p) e is)) (λ p name is. subst (λ (q : PathView). IsBelow q p) (sym e) is.1) (λ p store is. subst (λ (q : PathView). IsBelow q p) (sym e) is.1) a

  module _ (Form : List ℕ → Type 0) (folder : PathView) (names : List Name) (May : PathView → Type 0) where
    -- no names yet
    pub clears_start : (v : FolderView) → Clears root Anywhere May (Handled Form folder (take 0 names)) (Handled Form folder (take 0 names)) Cleared v v
    clears_start v = clears_none Anywhere May (Handled Form folder (take 0 names)) (Handled Form folder (take 0 names)) Cleared v (λ e. cc) (λ done p g. omega (arith, g.1.1, length-take 0 names)) (λ done p g. omega (arith, g.1.1, length-take 0 names))

    -- one name more
    pub clears_more : (i : ℕ) (item : Name) (part : List ℕ) (old mid new : FolderView) → take (i + 1) names ≡ take i names ++ item ∷ [] → part ≡ item.part → Clears root Anywhere May (Handled Form folder (take i names)) (Handled Form folder (take i names)) Cleared old mid → Clears root Anywhere May (ClearsPart Form folder part) (ClearsPart Form folder part) Cleared mid new → Clears root Anywhere May (Handled Form folder (take (i + 1) names)) (Handled Form folder (take (i + 1) names)) Cleared old new
    clears_more i item part old mid new grown same a b =
        let Before : PathView → Type 0 = Handled Form folder (take i names) in
        let This : PathView → Type 0 = ClearsPart Form folder item.part in
        let More : PathView → Type 0 = Handled Form folder (take (i + 1) names) in
        clears_as Anywhere Anywhere May May (λ p. Before p ⊎ This p) More (λ p. Before p ⊎ This p) More Cleared old new (λ s pre. pre) (λ p may. may)
        (λ p name g. handled_more Form folder names i item grown p g) (λ p store g. handled_more Form folder names i item grown p g)
        (clears_then Anywhere May Before This Before This Cleared old mid new a (subst (λ (w : List ℕ). Clears root Anywhere May (ClearsPart Form folder w) (ClearsPart Form folder w) Cleared mid new) same b))

    -- all names
    pub clears_every : (i : ℕ) (old new : FolderView) → take i names ≡ names → Clears root Anywhere May (Handled Form folder (take i names)) (Handled Form folder (take i names)) Cleared old new → Clears root Anywhere May (Handled Form folder names) (Handled Form folder names) Cleared old new
    clears_every i old new all a = subst (λ (ns : List Name). Clears root Anywhere May (Handled Form folder ns) (Handled Form folder ns) Cleared old new) all a

-- the names of entries' folders and of the code's file
both_handled : (folder : PathView) (names : List Name) (p : PathView) → Handled IsFunctionPart folder names p → Handled IsKeyName folder names p ⊎ Handled IsCodeName folder names p
both_handled folder names p (name, among, (inl key, is)) = inl (name, among, (key, is))
both_handled folder names p (name, among, (inr code, is)) = inr (name, among, (code, is))

pub clears_both : (root folder : PathView) (names : List Name) (May : PathView → Type 0) (answer : Clear) (old mid new : FolderView) → Clears root Anywhere May (Handled IsKeyName folder names) (Handled IsKeyName folder names) Cleared old mid → Clears root Anywhere May (Handled IsCodeName folder names) (Handled IsCodeName folder names) answer mid new → Clears root Anywhere May (Handled IsFunctionPart folder names) (Handled IsFunctionPart folder names) answer old new
clears_both root folder names May answer old mid new a b =
    let Keys : PathView → Type 0 = Handled IsKeyName folder names in
    let Codes : PathView → Type 0 = Handled IsCodeName folder names in
    let Both : PathView → Type 0 = Handled IsFunctionPart folder names in
    clears_as root Anywhere Anywhere May May (λ p. Keys p ⊎ Codes p) Both (λ p. Keys p ⊎ Codes p) Both answer old new (λ s pre. pre) (λ p may. may) (λ p name w. both_handled folder names p w) (λ p store w. both_handled folder names p w)
    (clears_then root Anywhere May Keys Codes Keys Codes answer old mid new a b)

-- ---- what stands in a folder of a level

handled_as : (Form Form' : List ℕ → Type 0) (folder : PathView) (names : List Name) (p : PathView)
    → ((part : List ℕ) → Form' part → Form part) → Handled Form' folder names p → Handled Form folder names p
handled_as Form Form' folder names p f (name, among, (form, is)) = (name, among, (f name.part form, is))

-- what was cleared of names of one kind alone
pub clears_inner : (root folder : PathView) (names : List Name) (k : Kind) (l given : Level) (answer : Clear) (old new : FolderView)
    → given ≡ l → ((part : List ℕ) → IsInnerName l part → IsKindName k part)
    → Clears root Anywhere (Reached (IsKindName k) folder) (Handled (IsKindName k) folder names) (Handled (IsKindName k) folder names) answer old new
    → Clears root Anywhere (IsBelow folder) (Handled (IsInnerName given) folder names) (Handled (IsInnerName given) folder names) answer old new
clears_inner root folder names k l given answer old new e f a =
    let As : PathView → Type 0 = Handled (IsInnerName l) folder names in
    let Of : PathView → Type 0 = Handled (IsKindName k) folder names in
    let turn : (p : PathView) → As p → Of p = λ p w. handled_as (IsKindName k) (IsInnerName l) folder names p f w in
    subst (λ (g : Level). Clears root Anywhere (IsBelow folder) (Handled (IsInnerName g) folder names) (Handled (IsInnerName g) folder names) answer old new) (sym e)
    (clears_as root Anywhere Anywhere (Reached (IsKindName k) folder) (IsBelow folder) Of As Of As answer old new (λ s pre. pre)
    (λ p may. reached_below (IsKindName k) folder p may) (λ p name w. turn p w) (λ p store w. turn p w) a)
