-- A cached call as its three parts, with what stood between them: the code is checked, the entry is looked for, and the answer is kept.
use Rattle.std.specs.Prelude.{◌≡◌, ◌≢◌, ◌⊎◌, ℕ, ◌-◌, List, [], ◌∷◌, ◌++◌, ⊤}
use Rattle.jl_text.specs.Counts.{Rose}
use Rattle.jl_text.specs.Paths.{PathView}
use Rattle.jl_folder.specs.Views.{FolderView, FolderAnswers, FolderKeeps, state, moved}
use Rattle.jl_folder.specs.Calls.{Waits}
use Rattle.jl_streams.specs.Moments.{moment_of, moments_after}
use Rattle.jl_streams.specs.Views.{HostKeeps}
use Rattle.jl_value.specs.Tree.{Tree}
use Rattle.jl_value.specs.Form.{tree_of}
use Rattle.jl_value.specs.Key.{key_of}
use Rattle.jl_value.specs.Library.{Answer, value, error, next_count}
use Rattle.jl_value.specs.declared.value.Value.{Value}
use Rattle.jl_value.specs.declared.key.Key.{Key}
use Rattle.jl_value.specs.declared.library.TaskError.{TaskError}
use Rattle.jl_entry.specs.Codes.{code_text}
use Rattle.jl_entry.specs.Moments.{access_text}
use Rattle.jl_entry.specs.declared.names.EntryFile.TheVariants.{Access}
use Rattle.jl_rely.specs.Steps.{IsLone}
use Rattle.jl_rely.specs.Claims.{Called, Anywhere}
use Rattle.jl_rely.specs.Touches.{TouchedByOther}
use Rattle.jl_protocol.specs.Whole.{CodeAnswers}
use Rattle.jl_protocol.specs.Proper.{IsProper, IsLawful}
use Rattle.jl_protocol.specs.Tidy.{IsTidy, IsSound}
use Rattle.jl_store.specs.Asked.{Asked}
use Rattle.jl_store.specs.Cached.{CountsCall}
use Rattle.jl_store.specs.Calling.{IsCalling}
use Rattle.jl_store.specs.Checking.{Checks, IsChecking, UsesCode, function_path, code_path, code_temp}
use Rattle.jl_store.specs.Keeping.{KeepsEntry, KeepsFile, IsMakingEntry, InOrder, HasEntry, HasPutAll, lasts_of, last_of, temp_of, IsReadyToKeep, IsReadyToTouch, texts}
use Rattle.jl_store.specs.Kinds.{PutsThis}
use Rattle.jl_store.specs.Looking.{LooksUp, LooksTidy, IsAnswered, warning}
use Rattle.jl_store.specs.Next.{entry_asked, ChecksAlone}
use Rattle.jl_store.specs.Parts.{keep_warns, check_warns}
use Rattle.jl_store.specs.Publishing.{IsPublished}
use Rattle.jl_store.specs.Renames.{PutsInTurn}
use Rattle.jl_store.specs.Stretch.{Point, Between, between, reached}
use Rattle.jl_store.specs.Trust.{IsTrusted}
use Rattle.jl_store.specs.Warned.{IsOrderly}
use Rattle.jl_store.specs.declared.answer.Keep.{Keep}
use Rattle.jl_store.specs.declared.answer.Keep.TheVariants as keep
use Rattle.jl_store.specs.declared.cached.Cached.{Cached}
use Rattle.jl_store.specs.declared.cached.Cached.TheVariants.{Hit, Computed, Error, NoMemory}
use Rattle.jl_store.specs.declared.checks.CodeCheck.{CodeCheck}
use Rattle.jl_store.specs.declared.checks.CodeCheck.TheVariants as check
use Rattle.jl_store.specs.declared.found.Look.{Look}
use Rattle.jl_store.specs.declared.found.Look.TheVariants as look
use Rattle.jl_store.specs.declared.memory.WarnKind.TheVariants.{LoadFault}
use Rattle.jl_store.specs.declared.memory.Warning.{Warning}

-- ---- the first part: the code

abbrev pub key_asked : Asked → Key
key_asked a = record { 0 = key_of a.args }

-- The code's file was checked, with this answer. A fault rose exactly where it tells one; it tells what the file held at its opening, and so which
-- moves were made; its final name is put in place at most once; and what it warns of is added. The function isn't called and the clock isn't read.
pub record HasChecked (a : Asked) (result : CodeCheck) (before after : Point) : Type 0 where
  pub answers : FolderAnswers ((result ≡ check.LoadFault) ⊎ (result ≡ check.StoreFault)) before.folder after.folder
  pub remembers : result ≢ check.NoMemory
  pub call : Called (IsProper a.root) (PutsThis a.root (code_path a.root a.module_name a.function_name) (code_text a.code a.line))
      (IsChecking (function_path a.root a.module_name a.function_name) (code_path a.root a.module_name a.function_name)
      (code_temp a.root a.module_name a.function_name a.token)) (IsTidy a.root) Anywhere before.folder after.folder
  pub once : PutsInTurn (code_path a.root a.module_name a.function_name ∷ []) before.folder.token (moved before.folder after.folder)
  pub checks : Checks result (function_path a.root a.module_name a.function_name) (code_path a.root a.module_name a.function_name)
      (code_temp a.root a.module_name a.function_name a.token) a.code before.folder after.folder
  pub skipped : result ≡ check.Skipped → IsOrderly a.root before.folder after.folder →
      TouchedByOther a.token (UsesCode (function_path a.root a.module_name a.function_name) (code_path a.root a.module_name a.function_name)
      (code_temp a.root a.module_name a.function_name a.token)) (moved before.folder after.folder)
  pub alone : IsLone a.token (moved before.folder after.folder) → IsTidy a.root (state before.folder) → (Rose before.folder.faults after.folder.faults → ⊥) →
      ChecksAlone result (function_path a.root a.module_name a.function_name) (code_path a.root a.module_name a.function_name)
      (code_temp a.root a.module_name a.function_name a.token) a.code (code_text a.code a.line) (state before.folder) (state after.folder)
  pub warns : after.warnings ≡ before.warnings ++ check_warns result a.function_name (key_asked a)
  pub calls : after.calls ≡ before.calls
  pub clock : after.host.moments ≡ before.host.moments

-- ---- the second part: the look

-- what the look answered, by the answer of the call
abbrev pub look_of : Cached → Look
look_of (Hit v) = look.Hit v
look_of (Computed v) = look.Miss
look_of (Error e) = look.Miss
look_of NoMemory = look.NoMemory

-- The entry was looked for after the check, whatever that answered, with no own move: so at a miss there was no output of this code and these
-- arguments then, or a fault rose, and where a value was found, it was found then. A fault rose exactly where one is warned of.
pub record HasLooked (a : Asked) (result : Look) (before after : Point) : Type 0 where
  pub answers : FolderAnswers (after.warnings ≡ before.warnings ++ warning LoadFault a.function_name a.args ∷ []) before.folder after.folder
  pub waits : Waits before.folder after.folder
  pub looks : LooksUp result a before.warnings after.warnings before.folder after.folder
  pub tidy : IsOrderly a.root before.folder after.folder → LooksTidy result a before.warnings after.warnings before.folder after.folder
  pub sound : (answer : CodeAnswers) → IsTrusted a.root answer before.folder after.folder → IsAnswered result answer a.code a.args
  pub calls : after.calls ≡ before.calls
  pub clock : after.host.moments ≡ before.host.moments

-- ---- the third part: the answer

-- The last access of an entry was put in place with this moment, or it is warned why not.
pub record HasTouched (a : Asked) (moment : ℕ) (ws ws' : List Warning) (before after : FolderView) : Type 0 where
  pub kept : Keep
  pub answers : FolderAnswers (kept ≡ keep.Fault) before after
  pub remembers : kept ≢ keep.NoMemory
  pub call : KeepsFile (entry_asked a) Access (access_text moment) (IsReadyToTouch (entry_asked a)) kept before after
  pub alone : kept ≡ keep.Kept → IsLone before.token (moved before after) →
      IsPublished (last_of (entry_asked a) Access) (temp_of (entry_asked a) before.token Access) (access_text moment) (state before) (state after)
  pub warns : ws' ≡ ws ++ keep_warns kept a.function_name (key_asked a)

-- A whole entry of this value was put in place in order, each file at most once, with this duration and moment, or it is warned why not.
pub record HasKept (a : Asked) (t : Tree) (duration moment : ℕ) (ws ws' : List Warning) (before after : FolderView) : Type 0 where
  pub kept : Keep
  pub answers : FolderAnswers (kept ≡ keep.Fault) before after
  pub remembers : kept ≢ keep.NoMemory
  pub call : KeepsEntry (entry_asked a) (texts a.code a.args t duration moment) (IsReadyToKeep (entry_asked a)) (HasPutAll (entry_asked a) before.token) kept before after
  pub once : PutsInTurn (lasts_of (entry_asked a)) before.token (moved before after)
  pub order : InOrder (IsMakingEntry (entry_asked a)) (entry_asked a) before.token (moved before after)
  pub alone : kept ≡ keep.Kept → IsLone before.token (moved before after) →
      HasEntry (entry_asked a) before.token (texts a.code a.args t duration moment) (state before) (state after)
  pub warns : ws' ≡ ws ++ keep_warns kept a.function_name (key_asked a)

-- a value that was found: the function isn't called, and the clock is read once, for the moment of this access
pub record HasFound (a : Asked) (before after : Point) : Type 0 where
  pub moment : ℕ
  pub touched : HasTouched a moment before.warnings after.warnings before.folder after.folder
  pub calls : after.calls ≡ before.calls
  pub timed : before.host.told → moment ≡ moment_of before.host.moments
  pub clock : before.host.told → after.host.moments ≡ moments_after before.host.moments

-- a value that the function answered: the call is counted, the clock is read before and after it, and the value is kept with how long it took and when it ended
pub record HasComputed (answer : CodeAnswers) (a : Asked) (v : Value) (before after : Point) : Type 0 where
  pub answered : answer a.code a.args ≡ value (tree_of v)
  pub duration : ℕ
  pub moment : ℕ
  pub kept : HasKept a (tree_of v) duration moment before.warnings after.warnings before.folder after.folder
  pub calls : after.calls ≡ next_count before.calls
  pub ended : before.host.told → moment ≡ moment_of (moments_after before.host.moments)
  pub took : before.host.told → duration ≡ moment_of (moments_after before.host.moments) - moment_of before.host.moments
  pub clock : before.host.told → after.host.moments ≡ moments_after (moments_after before.host.moments)

-- an error that the function answered: the same, and nothing is kept
pub record HasFailed (answer : CodeAnswers) (a : Asked) (e : TaskError) (before after : Point) : Type 0 where
  pub answered : answer a.code a.args ≡ error e
  pub answers : FolderAnswers ⊥ before.folder after.folder
  pub history : after.folder.history ≡ before.folder.history
  pub warns : after.warnings ≡ before.warnings
  pub calls : after.calls ≡ next_count before.calls
  pub clock : before.host.told → after.host.moments ≡ moments_after (moments_after before.host.moments)

-- by the answer of the call; for want of memory it may have ended anywhere
abbrev pub HasAnswered : CodeAnswers → Asked → Cached → Point → Point → Type 0
HasAnswered answer a (Hit v) before after = HasFound a before after
HasAnswered answer a (Computed v) before after = HasComputed answer a v before after
HasAnswered answer a (Error e) before after = HasFailed answer a e before after
HasAnswered answer a NoMemory before after = ⊤

-- ---- the call

-- the look and the answer, and what stood between them
pub record AnswerDid (answer : CodeAnswers) (a : Asked) (r : Cached) (before after : Point) : Type 0 where
  pub looked : Between
  pub second : HasLooked a (look_of r) before (reached before looked)
  pub third : HasAnswered answer a r (reached before looked) after

-- the three parts, and what stood between them
pub record PartsDid (answer : CodeAnswers) (a : Asked) (r : Cached) (before after : Point) : Type 0 where
  pub check : CodeCheck
  pub checked : Between
  pub looked : Between
  pub first : HasChecked a check before (reached before checked)
  pub second : HasLooked a (look_of r) (reached before checked) (reached before looked)
  pub third : HasAnswered answer a r (reached before looked) after

-- of a call that gave an answer
abbrev pub IfAnswered : Cached → (did : Type 0) → Type 0
IfAnswered (Hit v) did = did
IfAnswered (Computed v) did = did
IfAnswered (Error e) did = did
IfAnswered NoMemory did = ⊤

-- the final names that a call may put in place, in their order: the code's file, and then the last access, or the three of a new entry
abbrev pub lasts_asked : Cached → Asked → List PathView
lasts_asked (Hit v) a = code_path a.root a.module_name a.function_name ∷ last_of (entry_asked a) Access ∷ []
lasts_asked (Computed v) a = code_path a.root a.module_name a.function_name ∷ lasts_of (entry_asked a)
lasts_asked (Error e) a = code_path a.root a.module_name a.function_name ∷ []
lasts_asked NoMemory a = code_path a.root a.module_name a.function_name ∷ lasts_of (entry_asked a)

-- What one cached call did between two points, where the folder tells: lawful throughout, by moves of its answer; and, if memory sufficed, its
-- three parts, one after the other.
pub record TaskDid (answer : CodeAnswers) (a : Asked) (r : Cached) (before after : Point) : Type 0 where
  pub call : Called (IsLawful a.root answer) (IsLawful a.root answer) (IsCalling r (entry_asked a) before.folder.token)
      (IsSound a.root answer) (IsSound a.root answer) before.folder after.folder
  pub folder : FolderKeeps before.folder after.folder
  pub host : HostKeeps before.host after.host
  pub counts : CountsCall r before.calls after.calls
  pub parts : IfAnswered r (PartsDid answer a r before after)

-- What cached calls did, one after the other: each begins where the one before it ended.
unfoldable pub TasksDid : CodeAnswers → List Asked → List Cached → Point → Point → Type 0
TasksDid answer [] [] before after = between after ≡ between before
TasksDid answer [] (r ∷ results) before after = ⊥
TasksDid answer (a ∷ asked) [] before after = ⊥
TasksDid answer (a ∷ asked) (r ∷ results) before after =
    (middle : Between) × TaskDid answer a r before (reached before middle) × TasksDid answer asked results (reached before middle) after
