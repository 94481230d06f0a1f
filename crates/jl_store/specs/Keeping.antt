-- What keeping an answer does, whatever others do.
use Rattle.std.specs.Prelude.{◌≡◌, ◌⊎◌, ◌≤◌, ℕ, true, false, List, [], ◌∷◌, ◌++◌, None, Some, length, ⊤}
use Rattle.jl_text.specs.Paths.{PathView}
use Rattle.jl_text.specs.declared.limits.TheConstants.{MOST_TEXT_BYTES}
use Rattle.jl_folder.specs.declared.moves.Move.{Move}
use Rattle.jl_folder.specs.declared.moves.Move.TheVariants.{MakeDir, Create, Append, Rename, Remove, RemoveDir}
use Rattle.jl_folder.specs.State.{State, Event, Trace, place_at, is_folder, bytes_at}
use Rattle.jl_folder.specs.Views.{FolderView, state, moved}
use Rattle.jl_value.specs.Tree.{Tree, nesting}
use Rattle.jl_value.specs.Canonical.{text_of}
use Rattle.jl_value.specs.Key.{args_tree}
use Rattle.jl_entry.specs.Names.{Final, entry_of, root_of, below, final_parts, temp_parts}
use Rattle.jl_entry.specs.Entry.{Members, entry_text}
use Rattle.jl_entry.specs.Moments.{metadata_text, access_text}
use Rattle.jl_entry.specs.declared.names.EntryFile.{EntryFile}
use Rattle.jl_entry.specs.declared.names.EntryFile.TheVariants.{Output, Metadata, Access}
use Rattle.jl_rely.specs.Steps.{StepFact, OwnMoves}
use Rattle.jl_rely.specs.Claims.{Called, Anywhere}
use Rattle.jl_rely.specs.Touches.{TouchedByOther}
use Rattle.jl_protocol.specs.Proper.{IsProper}
use Rattle.jl_protocol.specs.Tidy.{NodeHas, IsTidy}
use Rattle.jl_clear.specs.Taking.{IsBeside}
use Rattle.jl_store.specs.Kinds.{IsPiece, IsFor, PutsThis, UsesNames}
use Rattle.jl_store.specs.Renames.{PutsInTurn}
use Rattle.jl_folder.specs.declared.folder.MadeDir.{MadeDir}
use Rattle.jl_folder.specs.declared.folder.MadeDir.TheVariants as made_dir
use Rattle.hex.specs.Hex.{encode_lower}
use Rattle.jl_protocol.specs.Whole.{IsWhole}
use Rattle.jl_store.specs.declared.memory.Memory.{Memory}
use Rattle.jl_store.specs.declared.files.Published.{Published}
use Rattle.jl_store.specs.declared.files.Published.TheVariants as published
use Rattle.jl_store.specs.declared.keeping.EntryTexts.{EntryTexts}
use Rattle.jl_store.specs.declared.answer.Keep.{Keep}
use Rattle.jl_store.specs.declared.answer.Keep.TheVariants as keep

-- an entry: the root of the cache, the module, the function, and the key of the arguments
pub record EntryPlace : Type 0 where
  pub root : PathView
  pub module_name : List ℕ
  pub function_name : List ℕ
  pub key : List ℕ

-- ---- where it stands

abbrev pub function_path : EntryPlace → PathView
function_path e = below e.root (e.module_name ∷ e.function_name ∷ [])

abbrev pub entry_path : EntryPlace → PathView
entry_path e = below e.root (e.module_name ∷ e.function_name ∷ e.key ∷ [])

abbrev pub file_of : EntryPlace → EntryFile → Final
file_of e file = entry_of file e.module_name e.function_name e.key

abbrev pub last_of : EntryPlace → EntryFile → PathView
last_of e file = below e.root (final_parts (file_of e file))

abbrev pub temp_of : EntryPlace → List ℕ → EntryFile → PathView
temp_of e token file = below e.root (temp_parts (file_of e file) token)

-- ---- what stands in it

-- the text of each file, of a code, arguments, a value, how long the call took and when it ended
abbrev pub texts : List ℕ → Members → Tree → (duration moment : ℕ) → EntryFile → List ℕ
texts code ps t duration moment Output = entry_text code ps t
texts code ps t duration moment Metadata = metadata_text duration moment
texts code ps t duration moment Access = access_text moment

-- within the limits of the program
pub record IsKeepable (code : List ℕ) (ps : Members) (t : Tree) : Type 0 where
  pub code_short : length code ≤ MOST_TEXT_BYTES
  pub args_short : length (text_of (args_tree ps)) ≤ MOST_TEXT_BYTES
  pub args_shallow : nesting (args_tree ps) ≤ 64
  pub value_short : length (text_of t) ≤ MOST_TEXT_BYTES
  pub value_shallow : nesting t ≤ 64

-- ---- the moves

-- makes the entry's folder, makes and removes the temporary names of its files, appends pieces, and renames these to the final names
unfoldable pub IsKeeping : EntryPlace → List ℕ → Move → Type 0
IsKeeping e token (MakeDir p) = p ≡ entry_path e
IsKeeping e token (Create p n) = (file : EntryFile) × (p ≡ temp_of e token file)
IsKeeping e token (Append n bytes) = IsPiece bytes
IsKeeping e token (Rename p q) = (file : EntryFile) × (p ≡ temp_of e token file) × (q ≡ last_of e file)
IsKeeping e token (Remove p) = (file : EntryFile) × (p ≡ temp_of e token file)
IsKeeping e token (RemoveDir p) = ⊥

-- a rename gives the final name of a file of the entry to its text
unfoldable pub RenamesEntry : EntryPlace → (EntryFile → List ℕ) → State → Move → Type 0
RenamesEntry e text s (MakeDir p) = ⊤
RenamesEntry e text s (Create p n) = ⊤
RenamesEntry e text s (Append n bytes) = ⊤
RenamesEntry e text s (Rename p q) = (file : EntryFile) × (q ≡ last_of e file) × NodeHas s p (λ v. v.bytes ≡ text file)
RenamesEntry e text s (Remove p) = ⊤
RenamesEntry e text s (RemoveDir p) = ⊤

-- proper, and what it renames are these texts, to their final names
abbrev pub PutsEntry : EntryPlace → (EntryFile → List ℕ) → StepFact
PutsEntry e text token s m = IsProper e.root token s m × RenamesEntry e text s m

-- the names that keeping uses: the final and temporary names of the entry, its folder and that of the function
abbrev pub UsesEntry : EntryPlace → List ℕ → PathView → Type 0
UsesEntry e token p = ((file : EntryFile) × ((p ≡ last_of e file) ⊎ (p ≡ temp_of e token file))) ⊎ (p ≡ entry_path e) ⊎ (p ≡ function_path e)

-- one of these steps is this one
abbrev pub Includes : Event → Trace → Type 0
Includes step steps = (before rest : Trace) × (steps ≡ before ++ step ∷ rest)

-- this file of the entry was renamed to its final name
abbrev pub HasPut : EntryPlace → List ℕ → EntryFile → Trace → Type 0
HasPut e token file steps = Includes (token, Rename (temp_of e token file) (last_of e file)) steps

-- all three were
abbrev pub HasPutAll : EntryPlace → List ℕ → Trace → Type 0
HasPutAll e token steps = HasPut e token Output steps × HasPut e token Metadata steps × HasPut e token Access steps

-- ---- in order

-- the final names of the moments, and those of the entry, in the order in which they are put in place
abbrev pub moments_of : EntryPlace → List PathView
moments_of e = last_of e Metadata ∷ last_of e Access ∷ []

abbrev pub lasts_of : EntryPlace → List PathView
lasts_of e = last_of e Output ∷ moments_of e

-- makes the entry's folder
abbrev pub IsMakingEntry : EntryPlace → Move → Type 0
IsMakingEntry e m = m ≡ MakeDir (entry_path e)

-- the own steps are those of publishing this file
abbrev pub OnlyFor : EntryPlace → List ℕ → EntryFile → Trace → Type 0
OnlyFor e token file steps = OwnMoves token (IsFor (last_of e file) (temp_of e token file)) steps

-- the metadata is published, and then the last access, of which there is no step before the metadata was put in place
pub record MomentsInOrder (e : EntryPlace) (token : List ℕ) (steps : Trace) : Type 0 where
  pub metadata : Trace
  pub access : Trace
  pub parts : steps ≡ metadata ++ access
  pub metadata_own : OnlyFor e token Metadata metadata
  pub access_own : OnlyFor e token Access access
  pub access_after : (access ≡ []) ⊎ HasPut e token Metadata metadata

-- first the output, besides other own steps of these kinds, and then the moments, of which there is no step before the output was put in place
pub record InOrder (Before : Move → Type 0) (e : EntryPlace) (token : List ℕ) (steps : Trace) : Type 0 where
  pub output : Trace
  pub moments : Trace
  pub parts : steps ≡ output ++ moments
  pub output_own : OwnMoves token (λ m. Before m ⊎ IsFor (last_of e Output) (temp_of e token Output) m) output
  pub moments_in_order : MomentsInOrder e token moments
  pub moments_after : (moments ≡ []) ⊎ HasPut e token Output output

-- ---- the call

-- Each own step is proper wherever all steps before it are, and each own rename gives a final name of the entry to its text.
-- Kept is answered only where these renames were made.
-- Skipped is answered only where another's step made or removed a name that keeping uses, if all was ready at the entry.
pub record KeepsEntry (e : EntryPlace) (text : EntryFile → List ℕ) (Ready : State → Type 0) (Done : Trace → Type 0) (result : Keep) (old new : FolderView) : Type 0 where
  pub call : Called (IsProper e.root) (PutsEntry e text) (IsKeeping e old.token) (IsTidy e.root) Anywhere old new
  pub kept : result ≡ keep.Kept → Done (moved old new)
  pub skipped : result ≡ keep.Skipped → Ready (state old) → TouchedByOther old.token (UsesEntry e old.token) (moved old new)

-- for one file: its folder is there, and no folder has its final or temporary name
pub record IsReadyFor (e : EntryPlace) (token : List ℕ) (file : EntryFile) (s : State) : Type 0 where
  pub home : is_folder s (entry_path e) ≡ true
  pub last_free : is_folder s (last_of e file) ≡ false
  pub temp_free : is_folder s (temp_of e token file) ≡ false

-- One file alone: the same of its final and temporary name, and it is put in place at most once.
pub record KeepsFile (e : EntryPlace) (file : EntryFile) (bytes : List ℕ) (Ready : State → Type 0) (result : Keep) (old new : FolderView) : Type 0 where
  pub call : Called (IsProper e.root) (PutsThis e.root (last_of e file) bytes) (IsFor (last_of e file) (temp_of e old.token file)) (IsTidy e.root) Anywhere old new
  pub once : PutsInTurn (last_of e file ∷ []) old.token (moved old new)
  pub kept : result ≡ keep.Kept → HasPut e old.token file (moved old new)
  pub skipped : result ≡ keep.Skipped → Ready (state old) → TouchedByOther old.token (UsesNames (last_of e file) (temp_of e old.token file)) (moved old new)

-- for a whole entry: the state is tidy, and the function's folder is there
abbrev pub IsReadyToKeep : EntryPlace → State → Type 0
IsReadyToKeep e s = IsTidy e.root s × (is_folder s (function_path e) ≡ true)

-- for the files: the entry's folder is there, and no folder has one of their names
abbrev pub AreReady : EntryPlace → List ℕ → (EntryFile → Type 0) → State → Type 0
AreReady e token Files s = (file : EntryFile) → Files file → IsReadyFor e token file s

-- for the last access: the state is tidy, and the entry's folder is there
abbrev pub IsReadyToTouch : EntryPlace → State → Type 0
IsReadyToTouch e s = IsTidy e.root s × (is_folder s (entry_path e) ≡ true)

-- ---- alone

-- the names of these files
abbrev pub UsesFiles : EntryPlace → List ℕ → (EntryFile → Type 0) → PathView → Type 0
UsesFiles e token Files p = (file : EntryFile) × Files file × ((p ≡ last_of e file) ⊎ (p ≡ temp_of e token file))

-- these files have their texts, their temporary names are absent, and all else is as before
pub record HasFiles (e : EntryPlace) (token : List ℕ) (text : EntryFile → List ℕ) (Files : EntryFile → Type 0) (before after : State) : Type 0 where
  pub has : (file : EntryFile) → Files file → bytes_at after (last_of e file) ≡ Some (text file)
  pub gone : (file : EntryFile) → Files file → place_at after (temp_of e token file) ≡ None
  pub beside : IsBeside (UsesFiles e token Files) before after

-- the entry's folder is there with its three files, their temporary names are absent, and all else is as before
pub record HasEntry (e : EntryPlace) (token : List ℕ) (text : EntryFile → List ℕ) (before after : State) : Type 0 where
  pub folder : is_folder after (entry_path e) ≡ true
  pub has : (file : EntryFile) → bytes_at after (last_of e file) ≡ Some (text file)
  pub gone : (file : EntryFile) → place_at after (temp_of e token file) ≡ None
  pub beside : IsBeside (λ p. (p ≡ entry_path e) ⊎ UsesFiles e token (λ file. ⊤) p) before after

-- ---- in the program

-- the entry of a function and a key's bytes, where a run keeps answers
abbrev pub entry_in : Memory → List ℕ → List ℕ → EntryPlace
entry_in memory name key = record { root = root_of memory.location; module_name = memory.«module»; function_name = name; key = encode_lower key }

-- the files that are published after the output
abbrev pub IsMoments : EntryFile → Type 0
IsMoments file = (file ≡ Metadata) ⊎ (file ≡ Access)

abbrev pub IsAnyFile : EntryFile → Type 0
IsAnyFile file = ⊤

-- metadata and last access were renamed to their final names
abbrev pub HasPutMoments : EntryPlace → List ℕ → Trace → Type 0
HasPutMoments e token steps = HasPut e token Metadata steps × HasPut e token Access steps

-- the three texts that were made
abbrev pub text_in : EntryTexts → EntryFile → List ℕ
text_in made Output = made.output
text_in made Metadata = made.metadata
text_in made Access = made.access

-- each is whole for its file
abbrev pub AreEntryTexts : EntryPlace → (EntryFile → List ℕ) → Type 0
AreEntryTexts e text = (file : EntryFile) → IsWhole (file_of e file) (text file)

-- publishing, as a part of keeping
abbrev pub keep_of : Published → Keep
keep_of published.Done = keep.Kept
keep_of published.Skipped = keep.Skipped
keep_of published.Fault = keep.Fault
keep_of published.NoMemory = keep.NoMemory

-- a folder that was made or stands, as a part of keeping
abbrev pub made_of : MadeDir → Keep
made_of made_dir.Made = keep.Kept
made_of made_dir.Exists = keep.Kept
made_of made_dir.NoParent = keep.Skipped
made_of made_dir.Failed = keep.Fault
made_of made_dir.NoMemory = keep.NoMemory
