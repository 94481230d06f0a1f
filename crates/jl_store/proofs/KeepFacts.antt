-- One file of an entry after another.
use Rattle.jl_text.specs.Texts.{is_token}
use Rattle.std.specs.Prelude.{IsTrue}
use Rattle.std.proofs.Common.{◌≡◌, ◌≢◌, ◌⊎◌, inl, inr, ⊎_elim, ℕ, Bool, true, false, not, ◌&&◌, List, [], ◌∷◌, ◌++◌, Option, None, Some, IsSome, refl, sym, ap, subst, ◌∙◌, append_assoc}
use Rattle.jl_text.specs.Paths.{PathView, is_fixed, parent}
use Rattle.jl_folder.specs.declared.moves.Place.{Place}
use Rattle.jl_folder.specs.declared.moves.Move.{Move}
use Rattle.jl_folder.specs.declared.moves.Move.TheVariants.{MakeDir, Create, Append, Rename, Remove, RemoveDir}
use Rattle.jl_folder.specs.State.{State, Event, Trace, IsState, place_at, is_folder, bytes_of, bytes_at}
use Rattle.jl_folder.specs.Views.{FolderView, state, moved}
use Rattle.jl_entry.specs.declared.names.EntryFile.{EntryFile}
use Rattle.jl_entry.specs.declared.names.EntryFile.TheVariants.{Output, Metadata, Access}
use Rattle.jl_entry.specs.Names.{IsFinal, IsTemp}
use Rattle.jl_rely.specs.Claims.{Called, Moves, Anywhere}
use Rattle.jl_rely.specs.Touches.{TouchedByOther}
use Rattle.jl_rely.proofs.Since.{moved_then}
use Rattle.jl_rely.proofs.Touched.{touched_as}
use Rattle.jl_rely.proofs.Causes.{folder_as, touched_later, touched_sooner, until_end}
use Rattle.jl_rely.proofs.Composed.{then_called, called_as, called_for, called_keeps, not_called}
use Rattle.jl_protocol.specs.Tidy.{IsTidy}
use Rattle.jl_protocol.specs.Proper.{IsProper}
use Rattle.jl_protocol.proofs.Kills.{tidy_carried}
use Rattle.jl_clear.specs.Taking.{IsBeside}
use Rattle.jl_clear.proofs.Folders.{final_no_folder, temp_no_folder}
use Rattle.jl_store.specs.Kinds.{IsFor, RenamesThis, PutsThis, UsesNames}
use Rattle.jl_store.specs.Publishing.{EndsIn, Publishes, IsPublished}
use Rattle.jl_store.specs.Keeping.{EntryPlace, entry_path, file_of, last_of, temp_of, IsKeeping, RenamesEntry, PutsEntry, UsesEntry, UsesFiles, Includes, HasPut, KeepsEntry, KeepsFile, IsReadyFor, HasFiles, HasEntry, AreReady, IsMoments, IsAnyFile, IsReadyToTouch, keep_of}
use Rattle.jl_store.specs.declared.files.Published.{Published}
use Rattle.jl_store.specs.declared.files.Published.TheVariants as published
use Rattle.jl_store.specs.declared.answer.Keep.{Keep}
use Rattle.jl_store.specs.declared.answer.Keep.TheVariants as keep
use Rattle.jl_store.proofs.InTurn.{turns_none}
use Rattle.jl_store.proofs.EntryNames.{IsNamed, final_of, temp_is, last_parent, last_free, last_home, entry_not_last, entry_not_temp, last_not_last, last_not_temp, temp_not_last, temp_not_temp, for_apart}

-- ---- one file

pub for_keeping : (e : EntryPlace) (token : List ℕ) (file : EntryFile) (m : Move) → IsFor (last_of e file) (temp_of e token file) m → IsKeeping e token m
unfolding IsFor IsKeeping
for_keeping e token file (MakeDir p) is = absurd is
for_keeping e token file (Create p n) is = (file, is)
for_keeping e token file (Append n bytes) is = is
for_keeping e token file (Rename p q) is = (file, is.0, is.1)
for_keeping e token file (Remove p) is = (file, is)
for_keeping e token file (RemoveDir p) is = is

pub renames_file : (e : EntryPlace) (text : EntryFile → List ℕ) (file : EntryFile) (s : State) (m : Move) → RenamesThis (last_of e file) (text file) s m → RenamesEntry e text s m
unfolding RenamesThis RenamesEntry
renames_file e text file s (MakeDir p) is = tt
renames_file e text file s (Create p n) is = tt
renames_file e text file s (Append n bytes) is = tt
renames_file e text file s (Rename p q) is = (file, is.0, is.1)
renames_file e text file s (Remove p) is = tt
renames_file e text file s (RemoveDir p) is = tt

names_used : (e : EntryPlace) (token : List ℕ) (file : EntryFile) (p : PathView) → UsesNames (last_of e file) (temp_of e token file) p → UsesEntry e token p
names_used e token file p (inl is) = inl (file, inl is)
names_used e token file p (inr (inl is)) = inl (file, inr is)
names_used e token file p (inr (inr is)) = inr (inl (is ∙ last_parent e file))

pub done_if : (r : Published) → keep_of r ≡ keep.Kept → r ≡ published.Done
done_if published.Done is = refl
done_if published.Skipped is = absurd (cc)
done_if published.Fault is = absurd (cc)
done_if published.NoMemory is = absurd (cc)

pub fault_if : (r : Published) → keep_of r ≡ keep.Fault → r ≡ published.Fault
fault_if published.Done is = absurd (cc)
fault_if published.Skipped is = absurd (cc)
fault_if published.Fault is = refl
fault_if published.NoMemory is = absurd (cc)

pub if_fault : (r : Published) → r ≡ published.Fault → keep_of r ≡ keep.Fault
if_fault r is = ap keep_of is

pub skipped_if : (r : Published) → keep_of r ≡ keep.Skipped → r ≡ published.Skipped
skipped_if published.Done is = absurd (cc)
skipped_if published.Skipped is = refl
skipped_if published.Fault is = absurd (cc)
skipped_if published.NoMemory is = absurd (cc)

module _ (e : EntryPlace) (file : EntryFile) (old new : FolderView) where
  abbrev token : List ℕ
  token = old.token

  -- publishing, with the names of the entry
  pub file_keeps : (last temp : PathView) (bytes : List ℕ) (r : Published) → IsFinal e.root (file_of e file) last → IsTemp e.root (file_of e file) token temp → Publishes e.root last temp bytes r old new → (r ≡ published.Done → EndsIn (token, Rename temp last) (moved old new)) → KeepsFile e file bytes (IsReadyFor e token file) (keep_of r) old new
  file_keeps last temp bytes r final is_temp publishes ends =
      let here : Publishes e.root (last_of e file) (temp_of e token file) bytes r old new =
      subst (λ p. Publishes e.root p (temp_of e token file) bytes r old new) final.is (subst (λ p. Publishes e.root last p bytes r old new) is_temp.is publishes) in
      record {
        call = here.call;
        once = here.once;
        kept = λ is. let end = ends (done_if r is) in (end.0, [], subst (λ p. moved old new ≡ end.0 ++ (token, Rename p (last_of e file)) ∷ []) is_temp.is (subst (λ p. moved old new ≡ end.0 ++ (token, Rename temp p) ∷ []) final.is end.1));
        skipped = λ is ready. here.skipped (skipped_if r is) (record { last_free = ready.last_free; temp_free = ready.temp_free; home = last_home e file (state old) ready.home });
      }

  pub file_published : (last temp : PathView) (bytes : List ℕ) → IsFinal e.root (file_of e file) last → IsTemp e.root (file_of e file) token temp → IsPublished last temp bytes (state old) (state new) → IsPublished (last_of e file) (temp_of e token file) bytes (state old) (state new)
  file_published last temp bytes final is_temp is = subst (λ p. IsPublished p (temp_of e token file) bytes (state old) (state new)) final.is (subst (λ p. IsPublished last p bytes (state old) (state new)) is_temp.is is)

  -- told of another beginning
  pub file_from : (bytes : List ℕ) (Ready Ready' : State → Type 0) (r : Keep) → (r ≡ keep.Skipped → Ready' (state old) → TouchedByOther token (UsesNames (last_of e file) (temp_of e token file)) (moved old new)) → KeepsFile e file bytes Ready r old new → KeepsFile e file bytes Ready' r old new
  file_from bytes Ready Ready' r skipped keeps = record { call = keeps.call; once = keeps.once; kept = keeps.kept; skipped = skipped }

  -- one file is a part of the entry
  pub file_part : (text : EntryFile → List ℕ) (r : Keep) → KeepsFile e file (text file) (IsReadyFor e token file) r old new → KeepsEntry e text (IsReadyFor e token file) (HasPut e token file) r old new
  file_part text r keeps = record {
    call = called_as (IsProper e.root) (IsProper e.root) (PutsThis e.root (last_of e file) (text file)) (PutsEntry e text) (IsFor (last_of e file) (temp_of e token file)) (IsKeeping e token) (IsTidy e.root) (IsTidy e.root) Anywhere Anywhere old new
        (λ t s m given. given) (λ t s m owed. (owed.0, renames_file e text file s m owed.1)) (for_keeping e token file) (λ s tidy. tidy) (λ s post. tt) keeps.call;
    kept = keeps.kept;
    skipped = λ is ready. touched_as token (UsesNames (last_of e file) (temp_of e token file)) (UsesEntry e token) (names_used e token file) (moved old new) (keeps.skipped is ready);
  }

  pub part_alone : (text : EntryFile → List ℕ) (t : List ℕ) → IsPublished (last_of e file) (temp_of e t file) (text file) (state old) (state new) → HasFiles e t text (λ other. other ≡ file) (state old) (state new)
  part_alone text t here = record {
    has = λ other e'. ap (λ f. bytes_at (state new) (last_of e f)) e' ∙ here.has ∙ ap (λ f. Some (text f)) (sym e');
    gone = λ other e'. ap (λ f. place_at (state new) (temp_of e t f)) e' ∙ here.gone;
    beside = λ p apart. here.beside p (λ used. apart (file, refl, used));
  }

-- nothing was done
pub nothing_filed : (e : EntryPlace) (file : EntryFile) (bytes : List ℕ) (Ready : State → Type 0) (v : FolderView) → KeepsFile e file bytes Ready keep.NoMemory v v
nothing_filed e file bytes Ready v = record {
  call = not_called (IsProper e.root) (PutsThis e.root (last_of e file) bytes) (IsFor (last_of e file) (temp_of e v.token file)) (IsTidy e.root) Anywhere v (λ s tidy. tt);
  once = turns_none (last_of e file ∷ []) v;
  kept = λ (is : keep.NoMemory ≡ keep.Kept). absurd (cc);
  skipped = λ (is : keep.NoMemory ≡ keep.Skipped). absurd (cc);
}

pub nothing_keeps : (e : EntryPlace) (text : EntryFile → List ℕ) (Ready : State → Type 0) (Done : Trace → Type 0) (v : FolderView) → KeepsEntry e text Ready Done keep.NoMemory v v
nothing_keeps e text Ready Done v = record {
  call = not_called (IsProper e.root) (PutsEntry e text) (IsKeeping e v.token) (IsTidy e.root) Anywhere v (λ s tidy. tt);
  kept = λ (is : keep.NoMemory ≡ keep.Kept). absurd (cc);
  skipped = λ (is : keep.NoMemory ≡ keep.Skipped). absurd (cc);
}

-- ---- one after another

pub includes_left : (step : Event) (xs ys : Trace) → Includes step xs → Includes step (xs ++ ys)
includes_left step xs ys has = (has.0, has.1 ++ ys, ap (λ (l : Trace). l ++ ys) has.2 ∙ append_assoc has.0 (step ∷ has.1) ys)

pub includes_right : (step : Event) (xs ys : Trace) → Includes step ys → Includes step (xs ++ ys)
includes_right step xs ys has = (xs ++ has.0, has.1, ap (λ (l : Trace). xs ++ l) has.2 ∙ sym (append_assoc xs has.0 (step ∷ has.1)))

-- a later part, by the token of the first
pub keeps_as : (e : EntryPlace) (text : EntryFile → List ℕ) (Ready : State → Type 0) (Done : Trace → Type 0) (r : Keep) (mid new : FolderView) (token : List ℕ) → mid.token ≡ token → KeepsEntry e text Ready Done r mid new
    → Called (IsProper e.root) (PutsEntry e text) (IsKeeping e token) (IsTidy e.root) Anywhere mid new
keeps_as e text Ready Done r mid new mine same b =
    subst (λ (u : List ℕ). Called (IsProper e.root) (PutsEntry e text) (IsKeeping e u) (IsTidy e.root) Anywhere mid new) same b.call

pub keeps_then : (e : EntryPlace) (text : EntryFile → List ℕ) (Ready First Second : State → Type 0) (Done Put More : Trace → Type 0) (old mid new : FolderView) (r : Keep) →
    (Ready (state old) → Second (state mid) ⊎ TouchedByOther old.token (UsesEntry e old.token) (moved old mid)) → ((xs ys : Trace) → Put xs → More ys → Done (xs ++ ys)) →
    KeepsEntry e text First Put keep.Kept old mid → KeepsEntry e text Second More r mid new → KeepsEntry e text Ready Done r old new
keeps_then e text Ready First Second Done Put More old mid new r ready done a b =
    let goes = a.call.went in
    let on = b.call.went in
    record {
      call = then_called (IsProper e.root) (PutsEntry e text) (IsKeeping e old.token) (IsTidy e.root) (IsTidy e.root) Anywhere old mid new
          (called_for (IsProper e.root) (PutsEntry e text) (IsKeeping e old.token) (IsKeeping e old.token) (λ s. IsTidy e.root s × IsTidy e.root s) (IsTidy e.root) (λ s. IsTidy e.root s × Anywhere s) (IsTidy e.root) old mid (λ m is. is) (λ s t. (t, t)) (λ s both. both.0)
          (called_keeps (IsProper e.root) (PutsEntry e text) (IsKeeping e old.token) (IsTidy e.root) (IsTidy e.root) Anywhere old mid (tidy_carried e.root) a.call))
          (keeps_as e text Second More r mid new old.token goes.token b);
      kept = λ is. subst Done (sym (moved_then old mid new goes on)) (done (moved old mid) (moved mid new) (a.kept refl) (b.kept is));
      skipped = λ is was.
          ⊎_elim
          (λ (now_ready : Second (state mid)).
          touched_later (UsesEntry e old.token) old mid new goes on
          (subst (λ (u : List ℕ). TouchedByOther mid.token (UsesEntry e u) (moved mid new)) goes.token (b.skipped is now_ready)))
          (λ (touched : TouchedByOther old.token (UsesEntry e old.token) (moved old mid)). touched_sooner (UsesEntry e old.token) old mid new goes on touched)
          (ready was);
    }

-- a part that wasn't kept ends the keeping
pub keeps_ends : (e : EntryPlace) (text : EntryFile → List ℕ) (Ready First : State → Type 0) (Done Put : Trace → Type 0) (old new : FolderView) (r : Keep) → ((s : State) → Ready s → First s) → (r ≡ keep.Kept → ⊥) → KeepsEntry e text First Put r old new → KeepsEntry e text Ready Done r old new
keeps_ends e text Ready First Done Put old new r ready not_kept a = record {
  call = a.call;
  kept = λ is. absurd (not_kept is);
  skipped = λ is was. a.skipped is (ready (state old) was);
}

-- what is ready for a file stays so while another file is published, or another touched it
pub ready_on : (e : EntryPlace) (j k : EntryFile) → k ≢ j → (old new : FolderView) → Moves (IsFor (last_of e j) (temp_of e old.token j)) old new → IsReadyFor e old.token k (state old) → IsReadyFor e old.token k (state new) ⊎ TouchedByOther old.token (UsesEntry e old.token) (moved old new)
ready_on e j k ne old new moves ready =
    let token = old.token in
    let same : (x : PathView) → UsesEntry e old.token x → x ≢ last_of e j → x ≢ temp_of e old.token j → (place_at (state new) x ≡ place_at (state old) x) ⊎ TouchedByOther old.token (UsesEntry e old.token) (moved old new) =
    λ x uses a b. until_end (UsesEntry e old.token) (IsFor (last_of e j) (temp_of e old.token j)) x uses (for_apart (last_of e j) (temp_of e old.token j) x a b) old new moves in
    ⊎_elim
    (λ (a : place_at (state new) (entry_path e) ≡ place_at (state old) (entry_path e)).
    ⊎_elim
    (λ (b : place_at (state new) (last_of e k) ≡ place_at (state old) (last_of e k)).
    ⊎_elim
    (λ (d : place_at (state new) (temp_of e old.token k) ≡ place_at (state old) (temp_of e old.token k)).
    inl (record {
      home = folder_as (state old) (state new) (entry_path e) a ∙ ready.home;
      last_free = folder_as (state old) (state new) (last_of e k) b ∙ ready.last_free;
      temp_free = folder_as (state old) (state new) (temp_of e old.token k) d ∙ ready.temp_free;
    }))
    (λ t. inr t)
    (same (temp_of e token k) (inl (k, inr refl)) (temp_not_last e token k j ne) (temp_not_temp e token k j ne)))
    (λ t. inr t)
    (same (last_of e k) (inl (k, inl refl)) (last_not_last e k j ne) (last_not_temp e token k j ne)))
    (λ t. inr t)
    (same (entry_path e) (inr (inl refl)) (entry_not_last e j) (entry_not_temp e token j))

-- alone: one file, and then others
pub files_then : (e : EntryPlace) (token : List ℕ) (text : EntryFile → List ℕ) (One More All : EntryFile → Type 0) (s t u : State) → ((j k : EntryFile) → One j → More k → j ≢ k) → ((file : EntryFile) → All file → One file ⊎ More file) → ((file : EntryFile) → One file → All file) → ((file : EntryFile) → More file → All file) →
    HasFiles e token text One s t → HasFiles e token text More t u → HasFiles e token text All s u
files_then e token text One More All s t u apart split one more a b = record {
  has = λ file is. ⊎_elim (λ (mine : One file). (b.beside (last_of e file) (λ used. not_last file mine used)).1 ∙ a.has file mine) (λ (later : More file). b.has file later) (split file is);
  gone = λ file is. ⊎_elim (λ (mine : One file). (b.beside (temp_of e token file) (λ used. not_temp file mine used)).0 ∙ a.gone file mine) (λ (later : More file). b.gone file later) (split file is);
  beside = λ p free.
      let x = a.beside p (λ used. free (used.0, one used.0 used.1, used.2)) in
      let y = b.beside p (λ used. free (used.0, more used.0 used.1, used.2)) in (y.0 ∙ x.0, y.1 ∙ x.1);
}
  where
    not_last : (file : EntryFile) → One file → UsesFiles e token More (last_of e file) → ⊥
    not_last file mine used =
        ⊎_elim (λ (is : last_of e file ≡ last_of e used.0). last_not_last e file used.0 (apart file used.0 mine used.1) is) (λ (is : last_of e file ≡ temp_of e token used.0). last_not_temp e token file used.0 (apart file used.0 mine used.1) is) used.2

    not_temp : (file : EntryFile) → One file → UsesFiles e token More (temp_of e token file) → ⊥
    not_temp file mine used =
        ⊎_elim (λ (is : temp_of e token file ≡ last_of e used.0). temp_not_last e token file used.0 (apart file used.0 mine used.1) is) (λ (is : temp_of e token file ≡ temp_of e token used.0). temp_not_temp e token file used.0 (apart file used.0 mine used.1) is) used.2

-- the files after the output are ready while that is published, or another touched them
pub moments_ready : (e : EntryPlace) (old new : FolderView) → Moves (IsFor (last_of e Output) (temp_of e old.token Output)) old new → AreReady e old.token IsAnyFile (state old) → AreReady e old.token IsMoments (state new) ⊎ TouchedByOther old.token (UsesEntry e old.token) (moved old new)
moments_ready e old new moves ready =
    ⊎_elim
    (λ (a : IsReadyFor e old.token Metadata (state new)).
    ⊎_elim
    (λ (b : IsReadyFor e old.token Access (state new)). inl (both a b))
    (λ (t : TouchedByOther old.token (UsesEntry e old.token) (moved old new)). inr t)
    (ready_on e Output Access (λ (is : Access ≡ Output). cc) old new moves (ready Access tt)))
    (λ (t : TouchedByOther old.token (UsesEntry e old.token) (moved old new)). inr t)
    (ready_on e Output Metadata (λ (is : Metadata ≡ Output). cc) old new moves (ready Metadata tt))
  where
    both : IsReadyFor e old.token Metadata (state new) → IsReadyFor e old.token Access (state new) → AreReady e old.token IsMoments (state new)
    both a b file (inl is) = subst (λ f. IsReadyFor e old.token f (state new)) (sym is) a
    both a b file (inr is) = subst (λ f. IsReadyFor e old.token f (state new)) (sym is) b

pub output_apart : (j k : EntryFile) → j ≡ Output → IsMoments k → j ≢ k
output_apart j k is (inl e) same = let apart : Output ≡ Metadata = sym is ∙ same ∙ e in cc
output_apart j k is (inr e) same = let apart : Output ≡ Access = sym is ∙ same ∙ e in cc

pub output_split : (file : EntryFile) → IsAnyFile file → (file ≡ Output) ⊎ IsMoments file
output_split Output any = inl refl
output_split Metadata any = inr (inl refl)
output_split Access any = inr (inr refl)

named_some : (s : State) (o : Option Place) (bytes : List ℕ) → bytes_of s o ≡ Some bytes → IsSome o
named_some s None bytes e = cc
named_some s (Some place) bytes e = refl

and_right : (a b : Bool) → (a && b) ≡ true → b ≡ true
and_right true b e = e
and_right false b e = cc

-- the folder and all its files, alone
pub entry_has : (e : EntryPlace) (token : List ℕ) (text : EntryFile → List ℕ) (s t u : State) → IsState u → IsBeside (λ p. p ≡ entry_path e) s t → HasFiles e token text IsAnyFile t u → HasEntry e token text s u
entry_has e mine text s t u ok made files = record {
  folder = subst (λ p. is_folder u p ≡ true) (last_parent e Output)
      (and_right (not (is_fixed (last_of e Output))) (is_folder u (parent (last_of e Output))) (ok.parents (last_of e Output) (last_free e Output) (named_some u (place_at u (last_of e Output)) (text Output) (files.has Output tt))));
  has = λ file. files.has file tt;
  gone = λ file. files.gone file tt;
  beside = λ p apart.
      let a = made p (λ is. apart (inl is)) in
      let b = files.beside p (λ used. apart (inr used)) in (b.0 ∙ a.0, b.1 ∙ a.1);
}

-- in a tidy state, where the entry's folder is there, a file is ready
pub touch_ready : (e : EntryPlace) (token : List ℕ) → IsNamed e → IsTrue (is_token token) → (file : EntryFile) (s : State) → IsReadyToTouch e s → IsReadyFor e token file s
touch_ready e token named ok file s ready = record {
  home = ready.1;
  last_free = final_no_folder e.root (file_of e file) (last_of e file) s (final_of e named file) ready.0;
  temp_free = temp_no_folder e.root (file_of e file) token (temp_of e token file) s (temp_is e named token ok file) ready.0;
}
