-- What storing and checking a code leave where no other moved.
use Rattle.std.proofs.Common.{◌≡◌, ◌⊎◌, inl, inr, ℕ, List, [], ◌∷◌, ◌++◌, Some, false, option_map, length, refl, sym, ap, subst, ◌∙◌, arith, append_assoc, append-nil, length-append}
use Rattle.std.specs.Prelude.{IsTrue}
use Rattle.std.specs.Option.{option_map_or}
use Rattle.jl_text.specs.Paths.{PathView}
use Rattle.jl_text.specs.Texts.{is_name}
use Rattle.jl_folder.specs.declared.moves.Node.{Node}
use Rattle.jl_folder.specs.declared.moves.Move.{Move}
use Rattle.jl_folder.specs.State.{State, Trace, place_at, node_at, bytes_of, is_file, is_folder_place, after, run}
use Rattle.jl_folder.specs.Views.{FolderView, state, moved}
use Rattle.jl_folder.specs.Calls.{Waits}
use Rattle.jl_folder.specs.Reading.{OpenedHas}
use Rattle.jl_entry.specs.Names.{code_of, IsFinal, IsTemp, IsStoreFolder, code_part, suffix, IsFunctionFolder}
use Rattle.jl_entry.proofs.NameFacts.{final_not_folder, temp_not_folder}
use Rattle.jl_rely.specs.Steps.{StepFact, AllSteps, Throughout, IsLone}
use Rattle.jl_rely.proofs.Alone.{waits_alone}
use Rattle.jl_clear.proofs.Folders.{entry_in, entry_place}
use Rattle.jl_clear.proofs.Listings.{front_none, no_moves}
use Rattle.jl_store.specs.Doing.{IsPrefix}
use Rattle.jl_store.specs.Publishing.{IsPublished}
use Rattle.jl_store.specs.Checking.{IsOfCode, Holds, AreFiles, IsCodePublished, Comes, check_of, function_path, code_path, code_temp}
use Rattle.jl_store.specs.Next.{FileHas, IsInEntry, WritesCode, ReplacesCode, ChecksAlone}
use Rattle.jl_store.specs.Alone.{HasFolders, HasNoEntries, LeavesCode}
use Rattle.jl_store.specs.declared.files.Published.{Published}
use Rattle.jl_store.specs.declared.files.Published.TheVariants as published
use Rattle.jl_store.specs.declared.checks.CodeCheck.{CodeCheck}
use Rattle.jl_store.specs.declared.checks.CodeCheck.TheVariants as check
use Rattle.jl_store.specs.declared.checks.Held.{Held}
use Rattle.jl_store.specs.declared.checks.Held.TheVariants as held
use Rattle.jl_store.specs.declared.checks.CodeFiles.{CodeFiles}
use Rattle.jl_store.proofs.Drafts.{beside_same}

-- ---- answers

-- what was done was published
pub done_published : (p : Published) (d : CodeCheck) (r : CodeCheck) → r ≡ check_of p d → IsCodePublished r → p ≡ published.Done
done_published p d r is done = by_case p (subst IsCodePublished is done)
  where
    by_case : (q : Published) → IsCodePublished (check_of q d) → q ≡ published.Done
    by_case published.Done h = refl
    by_case published.Skipped h = absurd h
    by_case published.Fault h = absurd h
    by_case published.NoMemory h = absurd h

-- what the file held where it was published
pub comes_written : (r : CodeCheck) → (p : Published) × (r ≡ check_of p check.Written) → Comes r held.Absent
comes_written r (published.Done, e) = subst (λ (k : CodeCheck). Comes k held.Absent) (sym e) refl
comes_written r (published.Skipped, e) = subst (λ (k : CodeCheck). Comes k held.Absent) (sym e) tt
comes_written r (published.Fault, e) = subst (λ (k : CodeCheck). Comes k held.Absent) (sym e) tt
comes_written r (published.NoMemory, e) = subst (λ (k : CodeCheck). Comes k held.Absent) (sym e) (λ (is : held.Absent ≡ held.Fault). cc)

pub comes_replaced : (r : CodeCheck) → (p : Published) × (r ≡ check_of p check.Cleared) → Comes r held.Other
comes_replaced r (published.Done, e) = subst (λ (k : CodeCheck). Comes k held.Other) (sym e) refl
comes_replaced r (published.Skipped, e) = subst (λ (k : CodeCheck). Comes k held.Other) (sym e) tt
comes_replaced r (published.Fault, e) = subst (λ (k : CodeCheck). Comes k held.Other) (sym e) tt
comes_replaced r (published.NoMemory, e) = subst (λ (k : CodeCheck). Comes k held.Other) (sym e) (λ (is : held.Other ≡ held.Fault). cc)

-- ---- what is left

module _ (root : PathView) (m f token : List ℕ) (files : CodeFiles) (are : AreFiles root m f token files) (name_m : IsTrue (is_name m)) (name_f : IsTrue (is_name f)) (bytes : List ℕ) where
  function_is : IsFunctionFolder root files.folder
  function_is = (m, f, name_m, name_f, are.0)

  -- the file's names are longer than the path of its folder
  long_last : (rest : PathView) → files.last ≡ files.folder ++ rest → length rest ≡ 1
  long_last rest e = omega (arith, ap length e, ap length are.1.is, ap length are.0, length-append files.folder rest, length-append root (m ∷ f ∷ code_part ∷ []), length-append root (m ∷ f ∷ []))

  long_temp : (rest : PathView) → files.temp ≡ files.folder ++ rest → length rest ≡ 1
  long_temp rest e = omega (arith, ap length e, ap length are.2.is, ap length are.0, length-append files.folder rest, length-append root (m ∷ f ∷ (code_part ++ suffix token) ∷ []), length-append root (m ∷ f ∷ []))

  -- no first part of the folder's path is one of them
  prefix_apart : (p : PathView) → IsPrefix p files.folder → (p ≡ files.last) ⊎ (p ≡ files.temp) → ⊥
  prefix_apart p front (inl e) =
      omega (arith, ap length front.1, length-append p front.0, ap length e, ap length are.1.is, ap length are.0, length-append root (m ∷ f ∷ code_part ∷ []), length-append root (m ∷ f ∷ []))
  prefix_apart p front (inr e) =
      omega (arith, ap length front.1, length-append p front.0, ap length e, ap length are.2.is, ap length are.0, length-append root (m ∷ f ∷ (code_part ++ suffix token) ∷ []), length-append root (m ∷ f ∷ []))

  entry_folder : (p : PathView) (within : IsInEntry files.folder p) → p ≡ files.folder ++ within.0 ∷ [] → IsStoreFolder root p
  entry_folder p within e = subst (IsStoreFolder root) (sym e) (entry_place root (files.folder ++ within.0 ∷ []) (entry_in root files.folder within.0 function_is within.1)).0

  -- none stands at or below an entry's folder
  entry_apart : (p : PathView) → IsInEntry files.folder p → (p ≡ files.last) ⊎ (p ≡ files.temp) → ⊥
  entry_apart p within is = by_rest within.2.0 within.2.1 is
    where
      by_rest : (rest : PathView) → p ≡ (files.folder ++ within.0 ∷ []) ++ rest → (p ≡ files.last) ⊎ (p ≡ files.temp) → ⊥
      by_rest [] e (inl last) = final_not_folder root (code_of m f) p (subst (IsFinal root (code_of m f)) (sym last) are.1) (entry_folder p within (e ∙ append-nil (files.folder ++ within.0 ∷ [])))
      by_rest [] e (inr temp) = temp_not_folder root (code_of m f) token p (subst (IsTemp root (code_of m f) token) (sym temp) are.2) (entry_folder p within (e ∙ append-nil (files.folder ++ within.0 ∷ [])))
      by_rest (x ∷ xs) e (inl last) =
          let long = long_last (within.0 ∷ x ∷ xs) (sym last ∙ e ∙ append_assoc files.folder (within.0 ∷ []) (x ∷ xs)) in omega (arith, long)
      by_rest (x ∷ xs) e (inr temp) =
          let long = long_temp (within.0 ∷ x ∷ xs) (sym temp ∙ e ∙ append_assoc files.folder (within.0 ∷ []) (x ∷ xs)) in omega (arith, long)

  pub writes_code : (s t u : State) → HasFolders files.folder s t → IsPublished files.last files.temp bytes t u → WritesCode files.folder files.last files.temp bytes s u
  writes_code s t u made put = record {
    folders = λ p front. ap (λ o. option_map_or is_folder_place o false) (put.beside p (prefix_apart p front)).0 ∙ made.folders p front;
    has = put.has;
    gone = put.gone;
    beside = λ p apart.
        let first = made.beside p (λ front. apart (inl front)) in
        let second = put.beside p (λ e. apart (inr e)) in
        (second.0 ∙ first.0, second.1 ∙ first.1);
  }

  pub replaces_code : (s t u : State) → HasNoEntries files.folder s t → IsPublished files.last files.temp bytes t u → ReplacesCode files.folder files.last files.temp bytes s u
  replaces_code s t u none put = record {
    empty = λ p within. (put.beside p (entry_apart p within)).0 ∙ none.empty p within;
    has = put.has;
    gone = put.gone;
    beside = λ p apart.
        let first = none.beside p (λ within. apart (inl within)) in
        let second = put.beside p (λ e. apart (inr e)) in
        (second.0 ∙ first.0, second.1 ∙ first.1);
  }

-- ---- by the answer

-- after making folders only a file that was written is told
pub leaves_written : (r : CodeCheck) (files : CodeFiles) (bytes : List ℕ) (s t : State) → Comes r held.Absent → (r ≡ check.Written → WritesCode files.folder files.last files.temp bytes s t) → LeavesCode r files bytes s t
leaves_written check.Same files bytes s t comes writes = absurd (let wrong : held.Absent ≡ held.Same = comes in cc)
leaves_written check.Written files bytes s t comes writes = writes refl
leaves_written check.Cleared files bytes s t comes writes = absurd (let wrong : held.Absent ≡ held.Other = comes in cc)
leaves_written check.Skipped files bytes s t comes writes = tt
leaves_written check.LoadFault files bytes s t comes writes = tt
leaves_written check.StoreFault files bytes s t comes writes = tt
leaves_written check.NoMemory files bytes s t comes writes = tt

-- and after clearing one that takes another's place
pub leaves_replaced : (r : CodeCheck) (files : CodeFiles) (bytes : List ℕ) (s t : State) → Comes r held.Other → (r ≡ check.Cleared → ReplacesCode files.folder files.last files.temp bytes s t) → LeavesCode r files bytes s t
leaves_replaced check.Same files bytes s t comes replaces = absurd (let wrong : held.Other ≡ held.Same = comes in cc)
leaves_replaced check.Written files bytes s t comes replaces = absurd (let wrong : held.Other ≡ held.Absent = comes in cc)
leaves_replaced check.Cleared files bytes s t comes replaces = replaces refl
leaves_replaced check.Skipped files bytes s t comes replaces = tt
leaves_replaced check.LoadFault files bytes s t comes replaces = tt
leaves_replaced check.StoreFault files bytes s t comes replaces = tt
leaves_replaced check.NoMemory files bytes s t comes replaces = tt

-- ---- the whole check

-- where only own steps are made, what they owe all have
pub lone_owed : (Given Owed : StepFact) (token : List ℕ) → ((t : List ℕ) (s : State) (n : Move) → Owed t s n → Given t s n) → (s : State) (xs : Trace) → IsLone token xs → Throughout Given Owed token s xs → AllSteps Given s xs
unfolding IsLone Throughout AllSteps
lone_owed Given Owed token f s [] lone owes = tt
lone_owed Given Owed token f s (e ∷ es) lone owes =
    let here = subst (λ (t : List ℕ). Given t s e.1) (sym lone.0) (f token s e.1 (owes.0 lone.0)) in (here, lone_owed Given Owed token f (after s e) es lone.1 (owes.1 here))

-- a file that was opened has its bytes at the entry
opened_alone : (path : PathView) (P : List ℕ → Type 0) (s : State) (moves : Trace) → moves ≡ [] → OpenedHas path P s moves → FileHas path P s
opened_alone path P s moves none o =
    let split : o.before ++ (o.middle ++ o.later) ≡ [] = sym o.split ∙ none in
    let before : o.before ≡ [] = front_none o.before (o.middle ++ o.later) (sym split) in
    let rest : o.middle ++ o.later ≡ [] = ap (λ (t : Trace). t ++ (o.middle ++ o.later)) (sym before) ∙ split in
    let middle : o.middle ≡ [] = front_none o.middle o.later (sym rest) in
    let first : run s o.before ≡ s = ap (run s) before in
    let second : run s (o.before ++ o.middle) ≡ s = ap (λ (t : Trace). run s (t ++ o.middle)) before ∙ ap (run s) middle in
    let named = ap (λ u. place_at u path) (sym first) ∙ o.named in (
      o.view.bytes,
      ap (bytes_of s) named ∙ ap (option_map (λ (v : Node). v.bytes)) (subst (λ u. node_at u o.node ≡ Some o.view) second o.node_is),
      o.has,
    )

module _ (root : PathView) (m f token : List ℕ) (files : CodeFiles) (are : AreFiles root m f token files) (code bytes : List ℕ) where
  by_answer : (h : Held) (r : CodeCheck) (s t : State) → Comes r h → Holds files.last code h s [] → LeavesCode r files bytes s t → (r ≡ check.Skipped → ⊥) → (r ≡ check.LoadFault → ⊥) → (r ≡ check.StoreFault → ⊥) → ChecksAlone r files.folder files.last files.temp code bytes s t
  by_answer h check.Same s t comes holds leaves no_skip no_load no_store = (opened_alone files.last (IsOfCode code) s [] refl (subst (λ (k : Held). Holds files.last code k s []) comes holds), beside_same (λ p. ⊥) s t leaves)
  by_answer h check.Written s t comes holds leaves no_skip no_load no_store =
      let at = subst (λ (k : Held). Holds files.last code k s []) comes holds in
      (subst (λ (es : Trace). is_file (run s es) files.last ≡ false) (front_none at.0 at.1 at.2) at.3, leaves)
  by_answer h check.Cleared s t comes holds leaves no_skip no_load no_store =
      (opened_alone files.last (λ b. IsOfCode code b → ⊥) s [] refl (subst (λ (k : Held). Holds files.last code k s []) comes holds), leaves)
  by_answer h check.Skipped s t comes holds leaves no_skip no_load no_store = no_skip refl
  by_answer h check.LoadFault s t comes holds leaves no_skip no_load no_store = no_load refl
  by_answer h check.StoreFault s t comes holds leaves no_skip no_load no_store = no_store refl
  by_answer h check.NoMemory s t comes holds leaves no_skip no_load no_store = tt

  pub check_alone : (h : Held) (r : CodeCheck) (old mid new : FolderView) → Waits old mid → IsLone old.token (moved old mid) → Comes r h → Holds files.last code h (state old) (moved old mid) → LeavesCode r files bytes (state mid) (state new) → (r ≡ check.Skipped → ⊥) → (r ≡ check.LoadFault → ⊥) → (r ≡ check.StoreFault → ⊥)
      → ChecksAlone r (function_path root m f) (code_path root m f) (code_temp root m f token) code bytes (state old) (state new)
  check_alone h r old mid new waits lone comes holds leaves no_skip no_load no_store =
      let first = subst (Holds files.last code h (state old)) (no_moves old mid waits lone) holds in
      let after_it = subst (λ s. LeavesCode r files bytes s (state new)) (waits_alone old mid waits lone) leaves in
      subst (λ (p : PathView). ChecksAlone r p (code_path root m f) (code_temp root m f token) code bytes (state old) (state new)) are.0
      (subst (λ (p : PathView). ChecksAlone r files.folder p (code_temp root m f token) code bytes (state old) (state new)) are.1.is
      (subst (λ (p : PathView). ChecksAlone r files.folder files.last p code bytes (state old) (state new)) are.2.is
      (by_answer h r (state old) (state new) comes first after_it no_skip no_load no_store)))
