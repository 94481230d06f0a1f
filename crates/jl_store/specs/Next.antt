-- What a cached call leaves where no other moved meanwhile and no fault rose.
use Rattle.std.specs.Prelude.{◌≡◌, ◌⊎◌, ℕ, ◌-◌, true, false, List, [], ◌∷◌, ◌++◌, None, Some, IsTrue, ⊤}
use Rattle.hex.specs.Hex.{encode_lower}
use Rattle.jl_text.specs.Paths.{PathView}
use Rattle.jl_folder.specs.State.{State, place_at, bytes_at, is_file, is_folder}
use Rattle.jl_streams.specs.Moments.{moment_of, moments_after}
use Rattle.jl_streams.specs.Views.{HostView}
use Rattle.jl_value.specs.Form.{tree_of}
use Rattle.jl_value.specs.Key.{key_of}
use Rattle.jl_entry.specs.Names.{is_key}
use Rattle.jl_entry.specs.Codes.{code_text}
use Rattle.jl_entry.specs.Moments.{access_text}
use Rattle.jl_entry.specs.declared.names.EntryFile.TheVariants.{Access}
use Rattle.jl_clear.specs.Taking.{IsBeside}
use Rattle.jl_store.specs.Doing.{IsPrefix}
use Rattle.jl_store.specs.Publishing.{IsPublished}
use Rattle.jl_store.specs.Checking.{IsOfCode, function_path, code_path, code_temp}
use Rattle.jl_store.specs.Keeping.{EntryPlace, HasEntry, last_of, temp_of, texts}
use Rattle.jl_store.specs.Looking.{StandsWith, HasEntryOf}
use Rattle.jl_store.specs.Asked.{Asked, output_asked}
use Rattle.jl_store.specs.declared.checks.CodeCheck.{CodeCheck}
use Rattle.jl_store.specs.declared.checks.CodeCheck.TheVariants as check
use Rattle.jl_store.specs.declared.cached.Cached.{Cached}
use Rattle.jl_store.specs.declared.cached.Cached.TheVariants as cached

-- ---- the first part: the code

-- the path names a file whose bytes have P
abbrev pub FileHas : PathView → (List ℕ → Type 0) → State → Type 0
FileHas path P s = (bytes : List ℕ) × (bytes_at s path ≡ Some bytes) × P bytes

-- at or below the folder of an entry of this function
abbrev pub IsInEntry : (function : PathView) → PathView → Type 0
IsInEntry function p = (key : List ℕ) × IsTrue (is_key key) × IsPrefix (function ++ key ∷ []) p

-- the folders down to the function's are there, the code's file has these bytes, its temporary name is absent, and all else is as before
pub record WritesCode (function last temp : PathView) (bytes : List ℕ) (before after : State) : Type 0 where
  pub folders : (p : PathView) → IsPrefix p function → is_folder after p ≡ true
  pub has : bytes_at after last ≡ Some bytes
  pub gone : place_at after temp ≡ None
  pub beside : IsBeside (λ p. IsPrefix p function ⊎ (p ≡ last) ⊎ (p ≡ temp)) before after

-- the function's entries are gone, the code's file has these bytes, its temporary name is absent, and all else is as before
pub record ReplacesCode (function last temp : PathView) (bytes : List ℕ) (before after : State) : Type 0 where
  pub empty : (p : PathView) → IsInEntry function p → place_at after p ≡ None
  pub has : bytes_at after last ≡ Some bytes
  pub gone : place_at after temp ≡ None
  pub beside : IsBeside (λ p. IsInEntry function p ⊎ (p ≡ last) ⊎ (p ≡ temp)) before after

-- what a check of a code leaves, by its answer: nothing changes where the file is of this code; it is written where it is absent;
-- and where it is of another code it takes that one's place
abbrev pub ChecksAlone : CodeCheck → (function last temp : PathView) → (code bytes : List ℕ) → State → State → Type 0
ChecksAlone check.Same function last temp code bytes s t = FileHas last (IsOfCode code) s × IsBeside (λ p. ⊥) s t
ChecksAlone check.Written function last temp code bytes s t = (is_file s last ≡ false) × WritesCode function last temp bytes s t
ChecksAlone check.Cleared function last temp code bytes s t = FileHas last (λ old. IsOfCode code old → ⊥) s × ReplacesCode function last temp bytes s t
ChecksAlone check.Skipped function last temp code bytes s t = ⊥
ChecksAlone check.LoadFault function last temp code bytes s t = ⊥
ChecksAlone check.StoreFault function last temp code bytes s t = ⊥
ChecksAlone check.NoMemory function last temp code bytes s t = ⊤

-- ---- the second part: the answer

-- the entry of what is asked
abbrev pub entry_asked : Asked → EntryPlace
entry_asked a = record { root = a.root; module_name = a.module_name; function_name = a.function_name; key = encode_lower (key_of a.args) }

-- what the answer leaves: where an entry stood it is the answer, and its last access has this moment; where none stood, a value is kept
-- whole with the duration and the moment, and at an error nothing changes
abbrev pub AnswersAlone : Cached → Asked → (duration moment : ℕ) → State → State → Type 0
AnswersAlone (cached.Hit v) a duration moment s t = StandsWith (output_asked a) a.code a.args (tree_of v) s × IsPublished (last_of (entry_asked a) Access) (temp_of (entry_asked a) a.token Access) (access_text moment) s t
AnswersAlone (cached.Computed v) a duration moment s t = (HasEntryOf (output_asked a) a.code a.args s → ⊥) × HasEntry (entry_asked a) a.token (texts a.code a.args (tree_of v) duration moment) s t
AnswersAlone (cached.Error e) a duration moment s t = (HasEntryOf (output_asked a) a.code a.args s → ⊥) × IsBeside (λ p. ⊥) s t
AnswersAlone cached.NoMemory a duration moment s t = ⊤

-- ---- both

-- the file of the code was checked
abbrev pub AfterCheck : Asked → State → State → Type 0
AfterCheck a s t = (c : CodeCheck) × ((c ≡ check.Same) ⊎ (c ≡ check.Written) ⊎ (c ≡ check.Cleared)) ×
    ChecksAlone c (function_path a.root a.module_name a.function_name) (code_path a.root a.module_name a.function_name) (code_temp a.root a.module_name a.function_name a.token) a.code (code_text a.code a.line) s t

-- the code was checked, and then the call answered; for want of memory it may have ended anywhere
abbrev pub LeavesNext : Cached → Asked → (duration moment : ℕ) → State → State → Type 0
LeavesNext cached.NoMemory a duration moment s t = ⊤
LeavesNext result a duration moment s t = (middle : State) × AfterCheck a s middle × AnswersAlone result a duration moment middle t

-- of the moments that the clock had left, a hit has the first; a value that was computed has the second, and how much later it is
abbrev pub AreTimed : Cached → (duration moment : ℕ) → HostView → Type 0
AreTimed (cached.Hit v) duration moment host = moment ≡ moment_of host.moments
AreTimed (cached.Computed v) duration moment host = (moment ≡ moment_of (moments_after host.moments)) × (duration ≡ moment_of (moments_after host.moments) - moment_of host.moments)
AreTimed (cached.Error e) duration moment host = ⊤
AreTimed cached.NoMemory duration moment host = ⊤

-- and these are left then: a hit reads the clock once, and a call of the function is timed by two readings
abbrev pub LeftAfter : Cached → HostView → HostView → Type 0
LeftAfter (cached.Hit v) old new = new.moments ≡ moments_after old.moments
LeftAfter (cached.Computed v) old new = new.moments ≡ moments_after (moments_after old.moments)
LeftAfter (cached.Error e) old new = new.moments ≡ moments_after (moments_after old.moments)
LeftAfter cached.NoMemory old new = ⊤
