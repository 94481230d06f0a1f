-- What the calls leave during which no other moved.
use Rattle.std.proofs.Common.{◌≡◌, ◌≢◌, inl, inr, ⊎_elim, ℕ, List, [], ◌++◌, Option, None, Some, true, option_map, refl, sym, ap, subst, ◌∙◌}
use Rattle.jl_text.specs.Paths.{PathView}
use Rattle.jl_folder.specs.declared.moves.Place.{Place}
use Rattle.jl_folder.specs.declared.moves.Place.TheVariants.{Folder, File}
use Rattle.jl_folder.specs.declared.moves.Node.{Node}
use Rattle.jl_folder.specs.declared.moves.OpenFile.{OpenFile}
use Rattle.jl_folder.specs.declared.moves.Move.{Move}
use Rattle.jl_folder.specs.declared.moves.Move.TheVariants.{Create, Append, Rename, Remove}
use Rattle.jl_folder.specs.State.{State, Event, IsState, IsHistory, place_at, node_at, bytes_of, bytes_at, after, run}
use Rattle.jl_folder.specs.Views.{FolderView, state, moved}
use Rattle.jl_folder.specs.Calls.{Call, own_event}
use Rattle.jl_folder.proofs.StateKept.{IsState-run}
use Rattle.jl_rely.specs.Steps.{IsLone}
use Rattle.jl_rely.specs.Touches.{Touches}
use Rattle.jl_rely.proofs.Alone.{moves_alone}
use Rattle.jl_rely.proofs.Touched.{step_or_touch}
use Rattle.jl_rely.proofs.Effects.{created_here, created_node, created_nodes, appended_node, appended_nodes, renamed_here, renamed_from, renamed_node, renamed_nodes}
use Rattle.jl_protocol.proofs.Before.{some_not_none, renumber, node_of, created_files}
use Rattle.jl_clear.specs.Taking.{IsBeside}
use Rattle.jl_store.specs.Publishing.{MakesFile, TakesAway, IsDraft, IsPublished, TempAlone}
use Rattle.jl_store.specs.declared.temporary.TempFile.{TempFile}
use Rattle.jl_store.specs.declared.temporary.TempFile.TheVariants as temp_file
use Rattle.jl_store.specs.declared.temporary.Taken.TheVariants as taken

-- what a folder tells stands in a state
pub history_state : (v : FolderView) → IsHistory v.history v.opens → IsState (state v)
history_state v told = IsState-run v.history.start v.history.trace told.start told.trace

-- ---- look-ups that stay

pub untouched : (s : State) (e : Event) (x : PathView) → (Touches e.1 x → ⊥) → place_at (after s e) x ≡ place_at s x
untouched s e x apart = ⊎_elim (λ (same : place_at (after s e) x ≡ place_at s x). same) (λ (touch : Touches e.1 x). absurd (apart touch)) (step_or_touch s e x)

bytes_by : (s t : State) (o : Option Place) → ((n : ℕ) → o ≡ Some (File n) → node_at t n ≡ node_at s n) → bytes_of t o ≡ bytes_of s o
bytes_by s t None same = refl
bytes_by s t (Some place) same =
    elim place as (λ (k : Place). ((n : ℕ) → Some k ≡ Some (File n) → node_at t n ≡ node_at s n) → bytes_of t (Some k) ≡ bytes_of s (Some k)) [
      | Folder ↦ λ h. refl
      | File n ↦ λ h. ap (option_map (λ (v : Node). v.bytes)) (h n refl)
    ] same

-- the bytes stay where the place does and its node
pub bytes_stay : (s t : State) (p : PathView) → place_at t p ≡ place_at s p → ((n : ℕ) → place_at s p ≡ Some (File n) → node_at t n ≡ node_at s n) → bytes_at t p ≡ bytes_at s p
bytes_stay s t p place nodes = ap (bytes_of t) place ∙ bytes_by s t (place_at s p) nodes

pub beside_same : (Uses : PathView → Type 0) (s t : State) → t ≡ s → IsBeside Uses s t
beside_same Uses s t same p apart = (ap (λ u. place_at u p) same, ap (λ u. bytes_at u p) same)

pub beside_then : (Uses : PathView → Type 0) (s t u : State) → IsBeside Uses s t → IsBeside Uses t u → IsBeside Uses s u
beside_then Uses s t u a b p apart = let x = a p apart in let y = b p apart in (y.0 ∙ x.0, y.1 ∙ x.1)

-- ---- drafts

module _ (token : List ℕ) (temp : PathView) where
  pub removed_beside : (s : State) → IsBeside (λ p. p ≡ temp) s (after s (token, Remove temp))
  removed_beside s p apart =
      let place = untouched s (token, Remove temp) p apart in
      (place, bytes_stay s (after s (token, Remove temp)) p place (λ n named. refl))

  pub created_draft : (s : State) (n : ℕ) → IsState s → node_at s n ≡ None → IsDraft token temp n [] s (after s (token, Create temp n))
  created_draft s n ok fresh = record {
    named = created_here s token temp n;
    node = created_node s token temp n;
    only = λ p e.
        ⊎_elim
        (λ (new : (p ≡ temp) × (n ≡ n)). new.0)
        (λ (old : (p ≢ temp) × (place_at s p ≡ Some (File n))). let was = node_of s ok p n old.1 in absurd (some_not_none _ _ was.1 fresh))
        (created_files s token temp p n n e);
    beside = λ p apart.
        let place = untouched s (token, Create temp n) p apart in (
          place,
          bytes_stay s (after s (token, Create temp n)) p place
              (λ m named. created_nodes s token temp n m (λ (e : m ≡ n). let was = node_of s ok p m named in some_not_none _ _ was.1 (ap (node_at s) e ∙ fresh))),
        );
  }

  pub appended_draft : (n : ℕ) (bytes more : List ℕ) (before s : State) → IsDraft token temp n bytes before s → IsDraft token temp n (bytes ++ more) before (after s (token, Append n more))
  appended_draft n bytes more before s draft = record {
    named = draft.named;
    node = appended_node s token n more _ draft.node;
    only = draft.only;
    beside = λ p apart.
        let was = draft.beside p apart in (
          was.0,
          bytes_stay s (after s (token, Append n more)) p refl (λ m named. appended_nodes s token n more m (λ (e : m ≡ n). apart (draft.only p (renumber _ m n e named)))) ∙ was.1,
        );
  }

  pub renamed_published : (last : PathView) (n : ℕ) (bytes : List ℕ) (before s : State) → temp ≢ last → IsDraft token temp n bytes before s → IsPublished last temp bytes before (after s (token, Rename temp last))
  renamed_published last n bytes before s ne draft = record {
    has = ap (bytes_of (after s (token, Rename temp last))) (renamed_here s token temp last n draft.named)
        ∙ ap (option_map (λ (v : Node). v.bytes)) (renamed_node s token temp last n _ draft.named draft.node);
    gone = renamed_from s token temp last n draft.named ne;
    beside = λ p apart.
        let was = draft.beside p (λ e. apart (inr e)) in
        let place = untouched s (token, Rename temp last) p (λ touch. ⊎_elim (λ (e : p ≡ temp). apart (inr e)) (λ (e : p ≡ last). apart (inl e)) touch) in (
          place ∙ was.0,
          bytes_stay s (after s (token, Rename temp last)) p place
              (λ m named. renamed_nodes s token temp last n m draft.named (λ (e : m ≡ n). apart (inr (draft.only p (renumber _ m n e named)))))
              ∙ was.1,
        );
  }

  -- the same from an earlier state, with all else as it was there
  pub draft_from : (n : ℕ) (bytes : List ℕ) (first before s : State) → IsBeside (λ p. p ≡ temp) first before → IsDraft token temp n bytes before s → IsDraft token temp n bytes first s
  draft_from n bytes first before s same draft = record {
    named = draft.named;
    node = draft.node;
    only = draft.only;
    beside = beside_then (λ p. p ≡ temp) first before s same draft.beside;
  }

-- ---- calls

pub temp_from : (temp : PathView) (r : TempFile) (first before : State) (new : FolderView) → IsBeside (λ p. p ≡ temp) first before → TempAlone temp r before new → TempAlone temp r first new
temp_from temp (temp_file.File number) first before new same alone = λ file is. draft_from new.token temp file.node [] first before (state new) same (alone file is)
temp_from temp temp_file.Skipped first before new same alone = tt
temp_from temp temp_file.Fault first before new same alone = tt
temp_from temp temp_file.NoMemory first before new same alone = tt

module _ (temp : PathView) where
  pub take_alone : (old new : FolderView) → Call old new (TakesAway temp taken.Away) → IsLone old.token (moved old new) → IsBeside (λ p. p ≡ temp) (state old) (state new)
  take_alone old new call lone =
      let alone = moves_alone old new (TakesAway temp taken.Away) call lone in
      by alone.own alone.answer alone.after
    where
      by : (own : Option Move) → TakesAway temp taken.Away (state old) own → state new ≡ run (state old) (own_event old.token own) → IsBeside (λ p. p ≡ temp) (state old) (state new)
      by own (inl none) end = beside_same (λ p. p ≡ temp) (state old) (state new) (end ∙ ap (λ o. run (state old) (own_event old.token o)) none.1)
      by own (inr just) end =
          subst (IsBeside (λ p. p ≡ temp) (state old)) (sym (end ∙ ap (λ o. run (state old) (own_event old.token o)) just)) (removed_beside old.token temp (state old))

  pub make_alone : (old new : FolderView) (r : TempFile) → new.token ≡ old.token → IsState (state old) → Call old new (MakesFile temp new.opens r) → IsLone old.token (moved old new) → TempAlone temp r (state old) new
  make_alone old new (temp_file.File number) same ok call lone =
      let alone = moves_alone old new (MakesFile temp new.opens (temp_file.File number)) call lone in
      let gives = alone.answer in
      let draft : IsDraft old.token temp gives.node [] (state old) (state new) =
      subst (IsDraft old.token temp gives.node [] (state old)) (sym (alone.after ∙ ap (λ o. run (state old) (own_event old.token o)) gives.move_is)) (created_draft old.token temp (state old) gives.node ok gives.unused) in
      λ file is.
      subst (λ (u : List ℕ). IsDraft u temp file.node [] (state old) (state new)) (sym same)
      (subst (λ (f : OpenFile). IsDraft old.token temp f.node [] (state old) (state new)) (one_open (new.opens number.0) (record { node = gives.node; made = true }) file gives.is_open is) draft)
    where
      one_open : (o : Option OpenFile) (x y : OpenFile) → o ≡ Some x → o ≡ Some y → x ≡ y
      one_open o x y a b = let e : Some x ≡ Some y = sym a ∙ b in cc
  make_alone old new temp_file.Skipped same ok call lone = tt
  make_alone old new temp_file.Fault same ok call lone = tt
  make_alone old new temp_file.NoMemory same ok call lone = tt

-- no own move
pub still_alone : (old new : FolderView) (Answer : State → Option Move → Type 0) → ((s : State) (own : Option Move) → Answer s own → own ≡ None) → Call old new Answer → IsLone old.token (moved old new) → state new ≡ state old
still_alone old new Answer still call lone =
    let alone = moves_alone old new Answer call lone in alone.after ∙ ap (λ o. run (state old) (own_event old.token o)) (still (state old) alone.own alone.answer)
