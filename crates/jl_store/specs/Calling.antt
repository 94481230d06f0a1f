-- Which moves a cached call makes, by its answer.
use Rattle.std.specs.Prelude.{◌≡◌, ◌⊎◌, ℕ, List, ⊤}
use Rattle.jl_folder.specs.declared.moves.Move.{Move}
use Rattle.jl_folder.specs.State.{State, Trace}
use Rattle.jl_folder.specs.Views.{FolderView, state, moved}
use Rattle.jl_folder.specs.Reading.{OpenedHas}
use Rattle.jl_streams.specs.Views.{HostView}
use Rattle.jl_value.specs.Tree.{Tree}
use Rattle.jl_value.specs.Form.{tree_of}
use Rattle.jl_entry.specs.Codes.{code_text}
use Rattle.jl_entry.specs.declared.names.EntryFile.{EntryFile}
use Rattle.jl_entry.specs.declared.names.EntryFile.TheVariants.{Access}
use Rattle.jl_rely.specs.Steps.{StepFact, OwnMoves}
use Rattle.jl_rely.specs.Claims.{Called, Anywhere}
use Rattle.jl_protocol.specs.Proper.{IsProper}
use Rattle.jl_protocol.specs.Tidy.{IsTidy}
use Rattle.jl_store.specs.Doing.{IsClearing}
use Rattle.jl_store.specs.Asked.{Asked}
use Rattle.jl_store.specs.Kinds.{IsFor, RenamesThis}
use Rattle.jl_store.specs.Checking.{IsOfCode, IsWriting, function_path, code_path, code_temp}
use Rattle.jl_store.specs.Keeping.{EntryPlace, IsKeeping, IsMakingEntry, InOrder, RenamesEntry, PutsEntry, last_of, temp_of, texts}
use Rattle.jl_store.specs.Next.{entry_asked, AreTimed}
use Rattle.jl_store.specs.declared.cached.Cached.{Cached}
use Rattle.jl_store.specs.declared.cached.Cached.TheVariants.{Hit, Computed, Error, NoMemory}

-- makes the function's folder, or publishes its code
abbrev pub IsWritingCode : EntryPlace → List ℕ → Move → Type 0
IsWritingCode e token m = IsWriting (function_path e.root e.module_name e.function_name) (code_path e.root e.module_name e.function_name) (code_temp e.root e.module_name e.function_name token) m

-- what the answer needs: the last access of an entry that was found, or a whole entry of a value that was computed; and nothing at an error
abbrev pub IsAnswering : Cached → EntryPlace → List ℕ → Move → Type 0
IsAnswering (Hit v) e token m = IsFor (last_of e Access) (temp_of e token Access) m
IsAnswering (Computed v) e token m = IsKeeping e token m
IsAnswering (Error x) e token m = ⊥
IsAnswering NoMemory e token m = IsKeeping e token m

-- writes the code, or what the answer needs: no entry is cleared
abbrev pub IsWritingCall : Cached → EntryPlace → List ℕ → Move → Type 0
IsWritingCall r e token m = IsWritingCode e token m ⊎ IsAnswering r e token m

-- that, or clears the entries of the function
abbrev pub IsCalling : Cached → EntryPlace → List ℕ → Move → Type 0
IsCalling r e token m = IsClearing (function_path e.root e.module_name e.function_name) m ⊎ IsWritingCall r e token m

-- entries are cleared only where the code's file was opened and held another code
abbrev pub ClearsOnlyAnothers : Cached → EntryPlace → (code : List ℕ) → FolderView → FolderView → Type 0
ClearsOnlyAnothers r e code old new =
    OwnMoves old.token (IsWritingCall r e old.token) (moved old new)
    ⊎ OpenedHas (code_path e.root e.module_name e.function_name) (λ bytes. IsOfCode code bytes → ⊥) (state old) (moved old new)

-- ---- in order

-- clears the entries of the function, writes its code, or makes the entry's folder
abbrev pub IsBeforeOutput : EntryPlace → List ℕ → Move → Type 0
IsBeforeOutput e token m = IsClearing (function_path e.root e.module_name e.function_name) m ⊎ IsWritingCode e token m ⊎ IsMakingEntry e m

-- a value that was computed is kept in order
abbrev pub IsOrdered : Cached → (Before : Move → Type 0) → EntryPlace → List ℕ → Trace → Type 0
IsOrdered (Hit v) Before e token steps = ⊤
IsOrdered (Computed v) Before e token steps = InOrder Before e token steps
IsOrdered (Error x) Before e token steps = ⊤
IsOrdered NoMemory Before e token steps = ⊤

-- ---- what is put in place

-- a rename gives the code's file the text of this code, or a file of the entry its text
abbrev pub RenamesCall : Asked → (EntryFile → List ℕ) → State → Move → Type 0
RenamesCall a text s m = RenamesThis (code_path a.root a.module_name a.function_name) (code_text a.code a.line) s m ⊎ RenamesEntry (entry_asked a) text s m

-- proper, and what it renames are these texts, to their final names
abbrev pub PutsCall : Asked → (EntryFile → List ℕ) → StepFact
PutsCall a text token s m = IsProper a.root token s m × RenamesCall a text s m

-- a value that was computed is the one that is kept
abbrev pub IsValueKept : Cached → Tree → Type 0
IsValueKept (Hit v) t = ⊤
IsValueKept (Computed v) t = t ≡ tree_of v
IsValueKept (Error x) t = ⊤
IsValueKept NoMemory t = ⊤

-- own moves of these kinds, and what they put in place are the texts of one value, one duration and one moment; of these the clock tells
pub record PutsOneValue (Owed : (EntryFile → List ℕ) → StepFact) (Kinds : Move → Type 0) (r : Cached) (a : Asked) (host : HostView) (old new : FolderView) : Type 0 where
  pub value : Tree
  pub duration : ℕ
  pub moment : ℕ
  pub call : Called (IsProper a.root) (Owed (texts a.code a.args value duration moment)) Kinds (IsTidy a.root) Anywhere old new
  pub kept : IsValueKept r value
  pub timed : host.told → AreTimed r duration moment host

-- what the answer puts in place
abbrev pub PutsAnswer : Cached → Asked → HostView → FolderView → FolderView → Type 0
PutsAnswer r a host old new = PutsOneValue (PutsEntry (entry_asked a)) (IsAnswering r (entry_asked a) old.token) r a host old new

-- what the whole call does
abbrev pub PutsFiles : Cached → Asked → HostView → FolderView → FolderView → Type 0
PutsFiles r a host old new = PutsOneValue (PutsCall a) (IsCalling r (entry_asked a) old.token) r a host old new
