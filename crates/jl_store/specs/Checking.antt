-- What checking a function's code does and tells, whatever others do.
use Rattle.std.specs.Prelude.{◌≡◌, ◌≢◌, ◌≤◌, ◌⊎◌, ℕ, false, List, [], ◌∷◌, length, IsTrue, ⊤}
use Rattle.jl_text.specs.Paths.{PathView}
use Rattle.jl_text.specs.Texts.{is_name}
use Rattle.jl_folder.specs.declared.moves.Move.{Move}
use Rattle.jl_folder.specs.declared.moves.Move.TheVariants.{Rename}
use Rattle.jl_folder.specs.State.{State, Trace, AtSome, is_file}
use Rattle.jl_folder.specs.Views.{FolderView, FolderAnswers, state, moved}
use Rattle.jl_folder.specs.Reading.{OpenedHas}
use Rattle.jl_entry.specs.Codes.{IsSameCode}
use Rattle.jl_entry.specs.Names.{Final, code_of, IsFinal, IsTemp, below, final_parts, temp_parts, IsFunctionFolder}
use Rattle.jl_rely.specs.Steps.{AllSteps, OwnMoves}
use Rattle.jl_rely.specs.Touches.{TouchedByOther}
use Rattle.jl_rely.specs.Claims.{GoesOn, Called, Anywhere, Silent}
use Rattle.jl_protocol.specs.Whole.{most_bytes, IsWhole}
use Rattle.jl_protocol.specs.Proper.{IsProper}
use Rattle.jl_protocol.specs.Tidy.{IsTidy}
use Rattle.jl_store.specs.Doing.{IsPrefix, IsMaking, IsClearing}
use Rattle.jl_store.specs.Kinds.{IsFor, PutsThis}
use Rattle.jl_store.specs.Renames.{PutsInTurn}
use Rattle.jl_store.specs.Publishing.{EndsIn}
use Rattle.jl_store.specs.declared.files.Published.{Published}
use Rattle.jl_store.specs.declared.files.Published.TheVariants as published
use Rattle.jl_store.specs.declared.checks.CodeCheck.{CodeCheck}
use Rattle.jl_store.specs.declared.checks.CodeCheck.TheVariants as check
use Rattle.jl_store.specs.declared.checks.Held.{Held}
use Rattle.jl_store.specs.declared.checks.Held.TheVariants as held
use Rattle.jl_store.specs.declared.checks.CodeFiles.{CodeFiles}

-- ---- what the file holds

-- the bytes are of this code, and no longer than a reader reads
abbrev pub IsOfCode : List ℕ → List ℕ → Type 0
IsOfCode code bytes = (length bytes ≤ most_bytes) × IsSameCode code bytes

-- what the bytes of a code's file are to a reader of this code
abbrev pub IsHeld : Held → List ℕ → List ℕ → Type 0
IsHeld held.Same bytes code = IsOfCode code bytes
IsHeld held.Absent bytes code = ⊥
IsHeld held.Other bytes code = IsOfCode code bytes → ⊥
IsHeld held.Fault bytes code = ⊥
IsHeld held.NoMemory bytes code = ⊥

-- what stands under the file's name
abbrev pub Holds : PathView → List ℕ → Held → State → Trace → Type 0
Holds path code held.Same s moves = OpenedHas path (IsOfCode code) s moves
Holds path code held.Absent s moves = AtSome s moves (λ s. is_file s path ≡ false)
Holds path code held.Other s moves = OpenedHas path (λ bytes. IsOfCode code bytes → ⊥) s moves
Holds path code held.Fault s moves = ⊤
Holds path code held.NoMemory s moves = ⊤

-- ---- the files

-- the folder, and the code's final and temporary name, of this function
abbrev pub AreFiles : (root : PathView) → (module' name token : List ℕ) → CodeFiles → Type 0
AreFiles root m f token files = (files.folder ≡ below root (m ∷ f ∷ [])) × IsFinal root (code_of m f) files.last × IsTemp root (code_of m f) token files.temp

-- their paths
abbrev pub function_path : (root : PathView) → (module' name : List ℕ) → PathView
function_path root m f = below root (m ∷ f ∷ [])

abbrev pub code_path : (root : PathView) → (module' name : List ℕ) → PathView
code_path root m f = below root (final_parts (code_of m f))

abbrev pub code_temp : (root : PathView) → (module' name token : List ℕ) → PathView
code_temp root m f token = below root (temp_parts (code_of m f) token)

-- ---- storing

-- the answer of a publishing
abbrev pub check_of : Published → CodeCheck → CodeCheck
check_of published.Done done = done
check_of published.Skipped done = check.Skipped
check_of published.Fault done = check.StoreFault
check_of published.NoMemory done = check.NoMemory

-- it was published
abbrev pub IsCodePublished : CodeCheck → Type 0
IsCodePublished check.Same = ⊥
IsCodePublished check.Written = ⊤
IsCodePublished check.Cleared = ⊤
IsCodePublished check.Skipped = ⊥
IsCodePublished check.LoadFault = ⊥
IsCodePublished check.StoreFault = ⊥
IsCodePublished check.NoMemory = ⊥

-- it was absent or another's, so that there was something to store
abbrev pub IsUnfitHeld : Held → Type 0
IsUnfitHeld held.Same = ⊥
IsUnfitHeld held.Absent = ⊤
IsUnfitHeld held.Other = ⊤
IsUnfitHeld held.Fault = ⊥
IsUnfitHeld held.NoMemory = ⊥

-- what the file held where this is answered; a fault in reading it is told as one
abbrev pub Comes : CodeCheck → Held → Type 0
Comes check.Same h = h ≡ held.Same
Comes check.Written h = h ≡ held.Absent
Comes check.Cleared h = h ≡ held.Other
Comes check.Skipped h = IsUnfitHeld h
Comes check.LoadFault h = h ≡ held.Fault
Comes check.StoreFault h = IsUnfitHeld h
Comes check.NoMemory h = h ≢ held.Fault

-- Own moves of these kinds, proper wherever all steps before them are, and each own rename gives the final name to these bytes. A publishing that
-- was done is its last step, the final name is put in place at most once, and a fault rose exactly where it is told.
pub record Stores (files : CodeFiles) (bytes : List ℕ) (Kinds : Move → Type 0) (result : CodeCheck) (old new : FolderView) : Type 0 where
  pub frame : FolderAnswers (result ≡ check.StoreFault) old new
  pub goes : old.told → GoesOn old new
  pub called : old.told → (root : PathView) (x : Final) → IsFunctionFolder root files.folder → IsTemp root x old.token files.temp → IsFinal root x files.last → IsWhole x bytes →
      Called (IsProper root) (PutsThis root files.last bytes) Kinds (IsTidy root) Anywhere old new
  pub ends : old.told → IsCodePublished result → EndsIn (old.token, Rename files.temp files.last) (moved old new)
  pub once : old.told → (root : PathView) (x : Final) → IsTemp root x old.token files.temp → IsFinal root x files.last → IsWhole x bytes →
      PutsInTurn (files.last ∷ []) old.token (moved old new)

-- the names that are used: the folder and those on the way to it, and the file's final and temporary name
abbrev pub UsesCode : (folder last temp : PathView) → PathView → Type 0
UsesCode folder last temp p = IsPrefix p folder ⊎ (p ≡ last) ⊎ (p ≡ temp)

-- where Pre held, in a tidy state and beside proper steps, a skip comes only where another's step made or removed one of these names
abbrev pub SkipsFor : CodeCheck → CodeFiles → List ℕ → (Pre : State → Type 0) → FolderView → FolderView → Type 0
SkipsFor result files bytes Pre old new =
    result ≡ check.Skipped → (root : PathView) (m f : List ℕ) → IsTrue (is_name m) → IsTrue (is_name f) → AreFiles root m f old.token files → IsWhole (code_of m f) bytes →
    IsTidy root (state old) → AllSteps (IsProper root) (state old) (moved old new) → Pre (state old) → TouchedByOther old.token (UsesCode files.folder files.last files.temp) (moved old new)

-- ---- checking

-- makes the function's folder, or publishes the code
abbrev pub IsWriting : (folder last temp : PathView) → Move → Type 0
IsWriting folder last temp m = IsMaking folder m ⊎ IsFor last temp m

-- clears the function's entries, or publishes the code
abbrev pub IsReplacing : (folder last temp : PathView) → Move → Type 0
IsReplacing folder last temp m = IsClearing folder m ⊎ IsFor last temp m

-- makes the folder, clears its entries, or publishes the code
abbrev pub IsChecking : (folder last temp : PathView) → Move → Type 0
IsChecking folder last temp m = IsMaking folder m ⊎ IsClearing folder m ⊎ IsFor last temp m

-- the kinds of moves by what the file held: none where it is the same, folders and the file where it is absent, entries and the file where it is another's
abbrev pub MovesFor : CodeFiles → Held → Move → Type 0
MovesFor files held.Same m = ⊥
MovesFor files held.Absent m = IsWriting files.folder files.last files.temp m
MovesFor files held.Other m = IsReplacing files.folder files.last files.temp m
MovesFor files held.Fault m = ⊥
MovesFor files held.NoMemory m = ⊥

-- the file was of this code when it was opened
abbrev pub WasOfCode : PathView → List ℕ → FolderView → FolderView → Type 0
WasOfCode last code old new = OpenedHas last (IsOfCode code) (state old) (moved old new)

-- the file was absent, and what was done makes the function's folder or publishes the code
pub record WritesFirstCode (folder last temp : PathView) (old new : FolderView) : Type 0 where
  pub absent : AtSome (state old) (moved old new) (λ s. is_file s last ≡ false)
  pub own : OwnMoves old.token (IsWriting folder last temp) (moved old new)

-- the file was of another code when it was opened, and what was done clears the function's entries or publishes the code
pub record Replaces (folder last temp : PathView) (code : List ℕ) (old new : FolderView) : Type 0 where
  pub another : OpenedHas last (λ bytes. IsOfCode code bytes → ⊥) (state old) (moved old new)
  pub own : OwnMoves old.token (IsReplacing folder last temp) (moved old new)

-- one or the other
abbrev pub Stored : (folder last temp : PathView) → List ℕ → FolderView → FolderView → Type 0
Stored folder last temp code old new = WritesFirstCode folder last temp old new ⊎ Replaces folder last temp code old new

-- what the answer tells: of the file at its opening, and of the own moves
abbrev pub Checks : CodeCheck → (folder last temp : PathView) → List ℕ → FolderView → FolderView → Type 0
Checks check.Same folder last temp code old new = WasOfCode last code old new × OwnMoves old.token Silent (moved old new)
Checks check.Written folder last temp code old new = WritesFirstCode folder last temp old new × EndsIn (old.token, Rename temp last) (moved old new)
Checks check.Cleared folder last temp code old new = Replaces folder last temp code old new × EndsIn (old.token, Rename temp last) (moved old new)
Checks check.Skipped folder last temp code old new = Stored folder last temp code old new
Checks check.LoadFault folder last temp code old new = OwnMoves old.token Silent (moved old new)
Checks check.StoreFault folder last temp code old new = Stored folder last temp code old new
Checks check.NoMemory folder last temp code old new = OwnMoves old.token Silent (moved old new) ⊎ Stored folder last temp code old new
