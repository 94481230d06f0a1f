-- What a look into the cache tells, whatever others do.
use Rattle.std.specs.Prelude.{◌≡◌, ◌≢◌, ◌≤◌, ◌⊎◌, ℕ, false, List, [], ◌∷◌, ◌++◌, length, Some, ⊤}
use Rattle.jl_text.specs.Paths.{PathView}
use Rattle.jl_value.specs.Tree.{Tree}
use Rattle.jl_value.specs.Form.{tree_of}
use Rattle.jl_value.specs.Key.{key_of}
use Rattle.jl_value.specs.Library.{value}
use Rattle.jl_value.specs.declared.key.Key.{Key}
use Rattle.jl_folder.specs.Reading.{OpenedHas}
use Rattle.jl_folder.specs.State.{State, Trace, AtSome, is_file, bytes_at}
use Rattle.jl_folder.specs.Views.{FolderView, state, moved}
use Rattle.jl_text.specs.Counts.{Rose}
use Rattle.jl_entry.specs.Entry.{Members, IsEntryOf, IsEntry, IsOther}
use Rattle.jl_protocol.specs.Whole.{most_bytes, CodeAnswers}
use Rattle.jl_store.specs.Asked.{Asked, output_asked}
use Rattle.jl_store.specs.declared.memory.WarnKind.{WarnKind}
use Rattle.jl_store.specs.declared.memory.WarnKind.TheVariants.{LoadFault, NotMine, Damaged}
use Rattle.jl_store.specs.declared.memory.Warning.{Warning}
use Rattle.jl_store.specs.declared.found.Found.{Found}
use Rattle.jl_store.specs.declared.found.Found.TheVariants as found
use Rattle.jl_store.specs.declared.found.Look.{Look}
use Rattle.jl_store.specs.declared.found.Look.TheVariants as look

-- ---- entries

-- the bytes are the entry of this code, these arguments and this value, no longer than a reader reads
abbrev pub IsStored : List ℕ → List ℕ → Members → Tree → Type 0
IsStored bytes code ps t = (length bytes ≤ most_bytes) × IsEntryOf bytes code ps t

-- the path names a file with these bytes, and they are the entry of this value
abbrev pub StandsWith : PathView → List ℕ → Members → Tree → State → Type 0
StandsWith path code ps t s = (bytes : List ℕ) × (bytes_at s path ≡ Some bytes) × IsStored bytes code ps t

-- an entry of this code and these arguments stands there
abbrev pub HasEntryOf : PathView → List ℕ → Members → State → Type 0
HasEntryOf path code ps s = (t : Tree) × StandsWith path code ps t s

-- the bytes are an entry, no longer than a reader reads
abbrev pub IsReadable : List ℕ → Type 0
IsReadable bytes = (length bytes ≤ most_bytes) × IsEntry bytes

-- ---- what was read

-- what the bytes of an output are to a reader of this code and these arguments
abbrev pub IsJudged : Found → List ℕ → List ℕ → Members → Type 0
IsJudged (found.Value v) bytes code ps = IsStored bytes code ps (tree_of v)
IsJudged found.Absent bytes code ps = ⊥
IsJudged found.NotMine bytes code ps = (length bytes ≤ most_bytes) × IsOther bytes code ps
IsJudged found.Damaged bytes code ps = IsReadable bytes → ⊥
IsJudged found.Fault bytes code ps = ⊥
IsJudged found.NoMemory bytes code ps = ⊤

-- what stands under an output's name
abbrev pub Finds : PathView → List ℕ → Members → Found → State → Trace → Type 0
Finds path code ps (found.Value v) s moves = OpenedHas path (λ bytes. IsStored bytes code ps (tree_of v)) s moves
Finds path code ps found.Absent s moves = AtSome s moves (λ s. is_file s path ≡ false)
Finds path code ps found.NotMine s moves = OpenedHas path (λ bytes. (length bytes ≤ most_bytes) × IsOther bytes code ps) s moves
Finds path code ps found.Damaged s moves = OpenedHas path (λ bytes. IsReadable bytes → ⊥) s moves
Finds path code ps found.Fault s moves = ⊤
Finds path code ps found.NoMemory s moves = ⊤

-- the same of the output that is asked for, where the folder tells
abbrev pub FindsAsked : Asked → Found → FolderView → FolderView → Type 0
FindsAsked a found old new = old.told → Finds (output_asked a) a.code a.args found (state old) (moved old new)

-- ---- a look

-- why a look finds no value
pub data Missing : Type 0 where
  absent : Missing
  failed : Missing
  other : Missing
  damaged : Missing

-- a warning on these arguments of a function
abbrev pub warning : WarnKind → List ℕ → Members → Warning
warning kind f ps = record { kind = kind; name = f; key = record { 0 = key_of ps } }

-- what it warns of
abbrev pub warnings_for : Missing → List ℕ → Members → List Warning
warnings_for absent f ps = []
warnings_for failed f ps = warning LoadFault f ps ∷ []
warnings_for other f ps = warning NotMine f ps ∷ []
warnings_for damaged f ps = warning Damaged f ps ∷ []

-- what then holds: a fault rose, or at one step there was no file, or the file opened was another's entry or none
abbrev pub IsMissing : Missing → Asked → FolderView → FolderView → Type 0
IsMissing absent a old new = FindsAsked a found.Absent old new
IsMissing failed a old new = Rose old.faults new.faults
IsMissing other a old new = FindsAsked a found.NotMine old new
IsMissing damaged a old new = FindsAsked a found.Damaged old new

-- what a look answers, with the warnings before and after it
abbrev pub LooksUp : Look → Asked → (warnings warnings' : List Warning) → FolderView → FolderView → Type 0
LooksUp (look.Hit v) a ws ws' old new = (ws' ≡ ws) × FindsAsked a (found.Value v) old new
LooksUp look.Miss a ws ws' old new = (why : Missing) × (ws' ≡ ws ++ warnings_for why a.function_name a.args) × IsMissing why a old new
LooksUp look.NoMemory a ws ws' old new = ws' ≡ ws

-- a miss that is warned of
abbrev pub IsMiss : Look → WarnKind → List ℕ → Key → (warnings warnings' : List Warning) → Type 0
IsMiss r kind f key ws ws' = (r ≡ look.Miss) × (ws' ≡ ws ++ record { kind = kind; name = f; key = key } ∷ [])

-- the answer for what was found
abbrev pub SettlesFound : Look → Found → List ℕ → Key → (warnings warnings' : List Warning) → Type 0
SettlesFound r (found.Value v) f key ws ws' = (r ≡ look.Hit v) × (ws' ≡ ws)
SettlesFound r found.Absent f key ws ws' = (r ≡ look.Miss) × (ws' ≡ ws)
SettlesFound r found.NotMine f key ws ws' = IsMiss r NotMine f key ws ws'
SettlesFound r found.Damaged f key ws ws' = IsMiss r Damaged f key ws ws'
SettlesFound r found.Fault f key ws ws' = IsMiss r LoadFault f key ws ws'
SettlesFound r found.NoMemory f key ws ws' = (r ≡ look.NoMemory) × (ws' ≡ ws)

-- at one step no entry of this code and these arguments stood
abbrev pub HadNone : Asked → FolderView → FolderView → Type 0
HadNone a old new = AtSome (state old) (moved old new) (λ s. HasEntryOf (output_asked a) a.code a.args s → ⊥)

-- the same beside runs whose steps are proper: a value stood as this entry at one step; where none was found, none of this code
-- and these arguments stood at one step, or a fault rose; and nothing is damaged
abbrev pub LooksTidy : Look → Asked → (warnings warnings' : List Warning) → FolderView → FolderView → Type 0
LooksTidy (look.Hit v) a ws ws' old new = AtSome (state old) (moved old new) (StandsWith (output_asked a) a.code a.args (tree_of v))
LooksTidy look.Miss a ws ws' old new = (HadNone a old new ⊎ Rose old.faults new.faults) × (ws' ≢ ws ++ warning Damaged a.function_name a.args ∷ [])
LooksTidy look.NoMemory a ws ws' old new = ⊤

-- a value that is found is what the code answers on the arguments
abbrev pub IsAnswered : Look → CodeAnswers → List ℕ → Members → Type 0
IsAnswered (look.Hit v) answer code ps = answer code ps ≡ value (tree_of v)
IsAnswered look.Miss answer code ps = ⊤
IsAnswered look.NoMemory answer code ps = ⊤
