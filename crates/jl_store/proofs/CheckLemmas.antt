-- Checking a function's code: what was read, and what was stored.
use Rattle.std.proofs.Common.{◌≡◌, ◌⊎◌, inl, inr, ℕ, false, List, [], ◌∷◌, ◌++◌, refl, sym, ap, subst, ◌∙◌, append_assoc, arith}
use Rattle.jl_text.specs.Paths.{PathView}
use Rattle.jl_folder.specs.declared.moves.Move.{Move}
use Rattle.jl_folder.specs.declared.moves.Move.TheVariants.{MakeDir, Create, Append, Rename, Remove, RemoveDir}
use Rattle.jl_folder.specs.State.{State, Trace, AtSome, is_file}
use Rattle.jl_folder.specs.Views.{FolderView, FolderAnswers, state, moved}
use Rattle.jl_folder.specs.Calls.{Waits}
use Rattle.jl_folder.specs.Reading.{ReadsNamed, OpenedHas}
use Rattle.jl_folder.proofs.Frames.{answers_none, answers_next, answers_as}
use Rattle.jl_entry.specs.Names.{Final, code_of, IsFinal, IsTemp, IsFunctionFolder}
use Rattle.jl_entry.proofs.NameFacts.{final_one_way}
use Rattle.jl_rely.specs.Steps.{OwnMoves}
use Rattle.jl_rely.specs.Claims.{GoesOn, Called, Moves, Anywhere, Silent}
use Rattle.jl_rely.proofs.Traces.{Throughout-weaken}
use Rattle.jl_rely.proofs.Since.{moved_then, goes_none, goes_then}
use Rattle.jl_rely.proofs.Moving.{moves_called, moves_waits, moves_then, moves_as, moves_none}
use Rattle.jl_rely.proofs.Composed.{goes_waits, waits_called, then_called, called_for, either_then, carried_stable, not_called}
use Rattle.jl_protocol.specs.Whole.{CodeAnswers, IsTruthful}
use Rattle.jl_protocol.specs.Tidy.{IsTidy}
use Rattle.jl_protocol.specs.Proper.{IsProper, IsLawful, RenamesTrue, LawfulThroughout}
use Rattle.jl_protocol.proofs.Kills.{tidy_carried}
use Rattle.jl_text.specs.Counts.{Rose}
use Rattle.jl_clear.proofs.DoingLemmas.{rose_later, later_rose}
use Rattle.jl_store.specs.Doing.{IsMaking, IsClearing}
use Rattle.jl_store.specs.Kinds.{IsFor, RenamesThis, PutsThis}
use Rattle.jl_store.specs.Renames.{IsNoRename}
use Rattle.jl_store.specs.Publishing.{EndsIn}
use Rattle.jl_store.specs.Checking.{IsOfCode, IsHeld, Holds, AreFiles, IsCodePublished, IsUnfitHeld, Comes, Stores, IsWriting, IsReplacing, MovesFor, IsChecking, WritesFirstCode, Replaces, Stored, Checks, function_path, code_path, code_temp}
use Rattle.jl_store.specs.declared.checks.CodeCheck.{CodeCheck}
use Rattle.jl_store.specs.declared.checks.CodeCheck.TheVariants as check
use Rattle.jl_store.specs.declared.checks.Held.{Held}
use Rattle.jl_store.specs.declared.checks.Held.TheVariants as held
use Rattle.jl_store.specs.declared.checks.CodeFiles.{CodeFiles}
use Rattle.jl_store.proofs.LookLemmas.{read_whole, read_short, read_has}
use Rattle.jl_store.proofs.InTurn.{turns_none, turns_moves, turns_then}
use Rattle.jl_store.proofs.Ending.{ends_later}

-- ---- what was read

-- a file that was read holds what it was compared as
pub holds_read : (path : PathView) (code bytes : List ℕ) (h : Held) (s : State) (moves : Trace) → ReadsNamed path 16777217 bytes s moves → IsHeld h bytes code → Holds path code h s moves
holds_read path code bytes h s moves reads compared = by_case h compared
  where
    by_case : (h' : Held) → IsHeld h' bytes code → Holds path code h' s moves
    by_case held.Same j = read_has path bytes (IsOfCode code) s moves reads (subst (IsOfCode code) (read_whole 16777216 bytes reads.view.bytes reads.has j.0) j)
    by_case held.Absent j = absurd j
    by_case held.Other j =
        read_has path bytes (λ b. IsOfCode code b → ⊥) s moves reads (λ of. j (subst (IsOfCode code) (sym (read_short 16777216 bytes reads.view.bytes reads.has of.0)) of))
    by_case held.Fault j = absurd j
    by_case held.NoMemory j = absurd j

-- the same of a longer call
pub at_more : (s : State) (xs ys : Trace) (P : State → Type 0) → AtSome s xs P → AtSome s (xs ++ ys) P
at_more s xs ys P at = (at.0, at.1 ++ ys, ap (λ (t : Trace). t ++ ys) at.2 ∙ append_assoc at.0 at.1 ys, at.3)

pub opened_more : (path : PathView) (P : List ℕ → Type 0) (s : State) (xs ys : Trace) → OpenedHas path P s xs → OpenedHas path P s (xs ++ ys)
opened_more path P s xs ys o = record {
  before = o.before;
  middle = o.middle;
  later = o.later ++ ys;
  split = ap (λ (t : Trace). t ++ ys) o.split ∙ append_assoc o.before (o.middle ++ o.later) ys ∙ ap (λ (t : Trace). o.before ++ t) (append_assoc o.middle o.later ys);
  node = o.node;
  named = o.named;
  view = o.view;
  node_is = o.node_is;
  has = o.has;
}

-- ---- what was stored

module _ (files : CodeFiles) (bytes : List ℕ) where
  -- nothing was done
  pub stores_none : (Kinds : Move → Type 0) (result : CodeCheck) (v : FolderView) → (IsCodePublished result → ⊥) → (result ≡ check.StoreFault → ⊥) → Stores files bytes Kinds result v v
  stores_none Kinds result v undone faultless = record {
    frame = answers_as v v (answers_none v) (λ e. faultless e) (λ bad. absurd bad);
    goes = λ t. goes_none v;
    called = λ t root x fun temp final whole. not_called (IsProper root) (PutsThis root files.last bytes) Kinds (IsTidy root) Anywhere v (λ s tidy. tt);
    ends = λ t done. absurd (undone done);
    once = λ t root x temp final whole. turns_none (files.last ∷ []) v;
  }

  module _ (K : Move → Type 0) (none : (m : Move) → K m → IsNoRename m) (puts : (root : PathView) → IsFunctionFolder root files.folder → (t : List ℕ) (s : State) (m : Move) → K m → PutsThis root files.last bytes t s m) where
    abbrev pub Both : Move → Type 0
    Both m = K m ⊎ IsFor files.last files.temp m

    -- other moves came first
    pub stores_then : {Fails : Type 0} (result : CodeCheck) (old mid new : FolderView) → FolderAnswers Fails old mid → (Fails → ⊥) → (old.told → Moves K old mid) → Stores files bytes (IsFor files.last files.temp) result mid new → Stores files bytes Both result old new
    stores_then result old mid new frame well a b = record {
      frame = answers_next old mid new frame well b.frame (λ e. e) (λ e. e);
      goes = λ t. goes_then old mid new (a t).went (b.goes (frame.told t));
      called = λ t root x fun temp final whole.
          either_then (IsProper root) (PutsThis root files.last bytes) K (IsFor files.last files.temp) (IsTidy root) Anywhere Anywhere old mid new (tidy_carried root)
          (moves_called (IsProper root) (PutsThis root files.last bytes) K (IsTidy root) old mid (λ s m is. puts root fun old.token s m is) (a t))
          (b.called (frame.told t) root x fun (subst (λ (u : List ℕ). IsTemp root x u files.temp) (sym frame.token) temp) final whole);
      ends = λ t done. ends_later (Rename files.temp files.last) old mid new (a t).went (b.goes (frame.told t)) (b.ends (frame.told t) done);
      once = λ t root x temp final whole.
          turns_then [] (files.last ∷ []) old mid new (a t).went (b.goes (frame.told t)) (turns_moves [] K none old mid (a t))
          (b.once (frame.told t) root x (subst (λ (u : List ℕ). IsTemp root x u files.temp) (sym frame.token) temp) final whole);
    }

    -- other moves alone
    pub stores_only : {Fails : Type 0} (result : CodeCheck) (old new : FolderView) → FolderAnswers Fails old new → (result ≡ check.StoreFault → Fails) → (Fails → result ≡ check.StoreFault) → (old.told → Moves K old new) → (IsCodePublished result → ⊥) → Stores files bytes Both result old new
    stores_only result old new frame to from a undone = record {
      frame = answers_as old new frame to from;
      goes = λ t. (a t).went;
      called = λ t root x fun temp final whole.
          called_for (IsProper root) (PutsThis root files.last bytes) K Both (IsTidy root) (IsTidy root) Anywhere Anywhere old new (λ m is. inl is) (λ s tidy. tidy) (λ s post. tt)
          (moves_called (IsProper root) (PutsThis root files.last bytes) K (IsTidy root) old new (λ s m is. puts root fun old.token s m is) (a t));
      ends = λ t done. absurd (undone done);
      once = λ t root x temp final whole. turns_moves (files.last ∷ []) K none old new (a t);
    }

-- ---- the whole check

module _ (root : PathView) (m f token : List ℕ) (files : CodeFiles) (are : AreFiles root m f token files) where
  abbrev home : PathView
  home = function_path root m f

  abbrev last : PathView
  last = code_path root m f

  abbrev temp : PathView
  temp = code_temp root m f token

  for_file : (n : Move) → IsFor files.last files.temp n → IsFor last temp n
  for_file n is = subst (λ (p : PathView). IsFor p temp n) are.1.is (subst (λ (p : PathView). IsFor files.last p n) are.2.is is)

  writing : (n : Move) → IsWriting files.folder files.last files.temp n → IsWriting home last temp n
  writing n (inl is) = inl (subst (λ (p : PathView). IsMaking p n) are.0 is)
  writing n (inr is) = inr (for_file n is)

  replacing : (n : Move) → IsReplacing files.folder files.last files.temp n → IsReplacing home last temp n
  replacing n (inl is) = inl (subst (λ (p : PathView). IsClearing p n) are.0 is)
  replacing n (inr is) = inr (for_file n is)

  moves_checking : (h : Held) (n : Move) → MovesFor files h n → IsChecking home last temp n
  moves_checking held.Same n is = absurd is
  moves_checking held.Absent n is = either (writing n is)
    where
      either : IsWriting home last temp n → IsChecking home last temp n
      either (inl making) = inl making
      either (inr puts) = inr (inr puts)
  moves_checking held.Other n is = inr (replacing n is)
  moves_checking held.Fault n is = absurd is
  moves_checking held.NoMemory n is = absurd is

  pub check_called : (bytes : List ℕ) (h : Held) (old mid new : FolderView) → mid.token ≡ old.token → Waits old mid → Called (IsProper root) (PutsThis root files.last bytes) (MovesFor files h) (IsTidy root) Anywhere mid new
      → Called (IsProper root) (PutsThis root last bytes) (IsChecking home last temp) (IsTidy root) Anywhere old new
  check_called bytes h old mid new same waits call =
      let K = IsChecking home last temp in
      let Owed = PutsThis root last bytes in
      let here = subst (λ (p : PathView). Called (IsProper root) (PutsThis root p bytes) (MovesFor files h) (IsTidy root) Anywhere mid new) are.1.is call in
      then_called (IsProper root) Owed K (IsTidy root) (IsTidy root) Anywhere old mid new
      (waits_called (IsProper root) Owed K (IsTidy root) (IsTidy root) old mid (carried_stable (IsProper root) old.token (IsTidy root) (tidy_carried root)) (λ s tidy. tidy) same waits)
      (called_for (IsProper root) Owed (MovesFor files h) K (IsTidy root) (IsTidy root) Anywhere Anywhere mid new (moves_checking h) (λ s tidy. tidy) (λ s post. tt) here)

  -- what was done is told by what the file held
  module _ (code : List ℕ) (h : Held) (old mid new : FolderView) (same : mid.token ≡ old.token) (waits : Waits old mid) (moves : Moves (MovesFor files h) mid new) (holds : Holds files.last code h (state old) (moved old mid)) where
    goes : GoesOn old mid
    goes = goes_waits old mid same waits

    parts : moved old new ≡ moved old mid ++ moved mid new
    parts = moved_then old mid new goes moves.went

    -- by moves of these kinds after the reading
    whole_own : (K : Move → Type 0) → ((n : Move) → MovesFor files h n → K n) → OwnMoves old.token K (moved old new)
    whole_own K f = (moves_then K old mid new (moves_waits K old mid same waits) (moves_as (MovesFor files h) K f mid new moves)).own

    opened_last : (P : List ℕ → Type 0) → OpenedHas files.last P (state old) (moved old mid) → OpenedHas last P (state old) (moved old new)
    opened_last P o =
        subst (λ (p : PathView). OpenedHas p P (state old) (moved old new)) are.1.is
        (subst (OpenedHas files.last P (state old)) (sym parts) (opened_more files.last P (state old) (moved old mid) (moved mid new) o))

    held_as : (k : Held) → h ≡ k → Holds files.last code k (state old) (moved old mid)
    held_as k e = subst (λ (x : Held). Holds files.last code x (state old) (moved old mid)) e holds

    kinds_as : (k : Held) → h ≡ k → (n : Move) → MovesFor files h n → MovesFor files k n
    kinds_as k e n is = subst (λ (x : Held). MovesFor files x n) e is

    was_absent : h ≡ held.Absent → WritesFirstCode home last temp old new
    was_absent e = record {
      absent =
          subst (λ (p : PathView). AtSome (state old) (moved old new) (λ s. is_file s p ≡ false)) are.1.is
          (subst (λ (t : Trace). AtSome (state old) t (λ s. is_file s files.last ≡ false)) (sym parts) (at_more (state old) (moved old mid) (moved mid new) (λ s. is_file s files.last ≡ false) (held_as held.Absent e)));
      own = whole_own (IsWriting home last temp) (λ n is. writing n (kinds_as held.Absent e n is));
    }

    was_another : h ≡ held.Other → Replaces home last temp code old new
    was_another e = record {
      another = opened_last (λ b. IsOfCode code b → ⊥) (held_as held.Other e);
      own = whole_own (IsReplacing home last temp) (λ n is. replacing n (kinds_as held.Other e n is));
    }

    silent : (k : Held) → h ≡ k → ((n : Move) → MovesFor files k n → ⊥) → OwnMoves old.token Silent (moved old new)
    silent k e none = whole_own Silent (λ n is. none n (kinds_as k e n is))

    stored_by : (k : Held) → h ≡ k → IsUnfitHeld k → Stored home last temp code old new
    stored_by held.Same e unfit = absurd unfit
    stored_by held.Absent e unfit = inl (was_absent e)
    stored_by held.Other e unfit = inr (was_another e)
    stored_by held.Fault e unfit = absurd unfit
    stored_by held.NoMemory e unfit = absurd unfit

    any_by : (k : Held) → h ≡ k → OwnMoves old.token Silent (moved old new) ⊎ Stored home last temp code old new
    any_by held.Same e = inl (silent held.Same e (λ n is. is))
    any_by held.Absent e = inr (inl (was_absent e))
    any_by held.Other e = inr (inr (was_another e))
    any_by held.Fault e = inl (silent held.Fault e (λ n is. is))
    any_by held.NoMemory e = inl (silent held.NoMemory e (λ n is. is))

    pub check_checks : (result : CodeCheck) → Comes result h → (IsCodePublished result → EndsIn (mid.token, Rename files.temp files.last) (moved mid new)) → Checks result home last temp code old new
    check_checks result comes ends = by_case result comes ends
      where
        end : EndsIn (mid.token, Rename files.temp files.last) (moved mid new) → EndsIn (old.token, Rename temp last) (moved old new)
        end e =
            subst (λ (p : PathView). EndsIn (old.token, Rename p last) (moved old new)) are.2.is
            (subst (λ (p : PathView). EndsIn (old.token, Rename files.temp p) (moved old new)) are.1.is (ends_later (Rename files.temp files.last) old mid new goes moves.went e))

        by_case : (r : CodeCheck) → Comes r h → (IsCodePublished r → EndsIn (mid.token, Rename files.temp files.last) (moved mid new)) → Checks r home last temp code old new
        by_case check.Same c e = (opened_last (IsOfCode code) (held_as held.Same c), silent held.Same c (λ n is. is))
        by_case check.Written c e = (was_absent c, end (e tt))
        by_case check.Cleared c e = (was_another c, end (e tt))
        by_case check.Skipped c e = stored_by h refl c
        by_case check.LoadFault c e = silent held.Fault c (λ n is. is)
        by_case check.StoreFault c e = stored_by h refl c
        by_case check.NoMemory c e = any_by h refl

-- nothing was done
pub checks_none : (folder last temp : PathView) (code : List ℕ) (v : FolderView) → Checks check.NoMemory folder last temp code v v
checks_none folder final draft code v = inl (moves_none Silent v).own

-- ---- faults

-- a fault rose in reading the file, and is told as that; or in what followed
pub check_frame : (h : Held) (r : CodeCheck) (old mid new : FolderView) → Comes r h → FolderAnswers (h ≡ held.Fault) old mid → FolderAnswers (r ≡ check.StoreFault) mid new → FolderAnswers ((r ≡ check.LoadFault) ⊎ (r ≡ check.StoreFault)) old new
check_frame h r old mid new comes a b = record {
  told = λ t. b.told (a.told t);
  token = b.token ∙ a.token;
  opens = b.opens ∙ a.opens;
  faults = record {
    later = omega (arith, a.faults.later, b.faults.later);
    failed = λ bad. rose bad;
    steady = λ well. b.faults.steady (λ is. well (inr is)) ∙ a.faults.steady (λ is. well (inl (told_so r comes is)));
  };
}
  where
    told_so : (k : CodeCheck) → Comes k h → h ≡ held.Fault → k ≡ check.LoadFault
    told_so check.Same is e = let wrong : held.Fault ≡ held.Same = sym e ∙ is in cc
    told_so check.Written is e = let wrong : held.Fault ≡ held.Absent = sym e ∙ is in cc
    told_so check.Cleared is e = let wrong : held.Fault ≡ held.Other = sym e ∙ is in cc
    told_so check.Skipped is e = absurd (subst IsUnfitHeld e is)
    told_so check.LoadFault is e = refl
    told_so check.StoreFault is e = absurd (subst IsUnfitHeld e is)
    told_so check.NoMemory is e = absurd (is e)

    rose : (r ≡ check.LoadFault) ⊎ (r ≡ check.StoreFault) → Rose old.faults new.faults
    rose (inl is) = rose_later old.faults mid.faults new.faults (a.faults.failed (subst (λ (k : CodeCheck). Comes k h) is comes)) b.faults.later
    rose (inr is) = later_rose old.faults mid.faults new.faults a.faults.later (b.faults.failed is)

-- ---- lawful

-- renaming to a code's file is true of any library
renames_code : (root : PathView) (answer : CodeAnswers) (m f : List ℕ) (last : PathView) → IsFinal root (code_of m f) last → (bytes : List ℕ) (s : State) (n : Move) → RenamesThis last bytes s n → RenamesTrue root answer s n
unfolding RenamesThis RenamesTrue IsTruthful
renames_code root answer m f path final bytes s (MakeDir p) r = tt
renames_code root answer m f path final bytes s (Create p n) r = tt
renames_code root answer m f path final bytes s (Append n more) r = tt
renames_code root answer m f path final bytes s (Rename p q) r = λ x other n v named at.
    let same : code_of m f ≡ x = final_one_way root (code_of m f) x q (subst (IsFinal root (code_of m f)) (sym r.0) final) other in
    subst (λ (z : Final). IsTruthful answer z v.bytes) same tt
renames_code root answer m f path final bytes s (Remove p) r = tt
renames_code root answer m f path final bytes s (RemoveDir p) r = tt

pub lawful_code : (root : PathView) (m f : List ℕ) (last : PathView) → IsFinal root (code_of m f) last → (bytes : List ℕ) (Kinds : Move → Type 0) (old new : FolderView) → Called (IsProper root) (PutsThis root last bytes) Kinds (IsTidy root) Anywhere old new → (answer : CodeAnswers) → LawfulThroughout root answer old.token (state old) (moved old new)
unfolding LawfulThroughout
lawful_code root m f last final bytes Kinds old new call answer sound =
    Throughout-weaken (IsProper root) (PutsThis root last bytes) (IsLawful root answer) (IsLawful root answer) (λ t s n lawful. lawful.0)
    (λ t s n owed. (owed.0, renames_code root answer m f last final bytes s n owed.1)) old.token (state old) (moved old new) (call.owes sound.tidy)
