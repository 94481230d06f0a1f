-- What publishing a final file does, whatever others do.
use Rattle.std.specs.Prelude.{◌≡◌, ◌⊎◌, ℕ, false, true, List, [], ◌∷◌, ◌++◌, Option, None, Some, IsSome, ⊤}
use Rattle.jl_text.specs.Paths.{PathView}
use Rattle.jl_folder.specs.declared.moves.Place.TheVariants.{File}
use Rattle.jl_folder.specs.declared.moves.OpenFile.{OpenFile}
use Rattle.jl_folder.specs.declared.moves.Move.{Move}
use Rattle.jl_folder.specs.declared.moves.Move.TheVariants.{Remove}
use Rattle.jl_folder.specs.State.{State, Event, Trace, Opens, place_at, node_at, is_file, is_folder, has_parent, bytes_at}
use Rattle.jl_folder.specs.Views.{FolderView, state, moved}
use Rattle.jl_folder.specs.Calls.{Creates, MaybeCreates, Maybe, OpensNew}
use Rattle.jl_entry.specs.Names.{Final, IsFinal, IsTemp}
use Rattle.jl_rely.specs.Claims.{Called, Anywhere}
use Rattle.jl_rely.specs.Touches.{TouchedByOther}
use Rattle.jl_protocol.specs.Proper.{IsProper}
use Rattle.jl_protocol.specs.Whole.{IsWhole}
use Rattle.jl_protocol.specs.Tidy.{IsTidy}
use Rattle.jl_protocol.specs.Owned.{IsOwnFile}
use Rattle.jl_store.specs.Kinds.{IsFor, PutsThis, UsesNames}
use Rattle.jl_store.specs.Renames.{PutsInTurn}
use Rattle.jl_store.specs.declared.temporary.TempFile.{TempFile}
use Rattle.jl_store.specs.declared.temporary.TempFile.TheVariants as temp_file
use Rattle.jl_store.specs.declared.temporary.Taken.{Taken}
use Rattle.jl_store.specs.declared.temporary.Taken.TheVariants as taken
use Rattle.jl_store.specs.declared.files.Wrote.{Wrote}
use Rattle.jl_store.specs.declared.files.Wrote.TheVariants as wrote
use Rattle.jl_store.specs.declared.files.Published.{Published}
use Rattle.jl_store.specs.declared.files.Published.TheVariants as published
use Rattle.jl_clear.specs.Taking.{IsBeside}

-- a file of some cache has this final name, and this temporary name of the token, and the bytes are whole for it
abbrev pub IsOfFile : (token : List ℕ) → (last temp : PathView) → List ℕ → Type 0
IsOfFile token last temp bytes = (root : PathView) × (x : Final) × IsTemp root x token temp × IsFinal root x last × IsWhole x bytes

-- for every root and final file whose temporary name this is: own steps of these kinds, proper wherever all steps before them are;
-- begun where Pre held, and where all steps are proper, the call ends where Post holds
abbrev pub CallsOn : PathView → (Kinds : Move → Type 0) → (Pre Post : PathView → State → Type 0) → FolderView → FolderView → Type 0
CallsOn temp Kinds Pre Post old new =
    (root : PathView) (x : Final) → IsTemp root x old.token temp → Called (IsProper root) (IsProper root) Kinds (Pre root) (Post root) old new

-- ---- the temporary file

-- one attempt at a temporary file: what it answers and does
abbrev pub MakesFile : PathView → Opens → TempFile → State → Option Move → Type 0
MakesFile temp opens (temp_file.File number) s own = Creates temp number.0 opens s own
MakesFile temp opens temp_file.Skipped s own = (IsSome (place_at s temp) ⊎ (has_parent s temp ≡ false)) × (own ≡ None)
MakesFile temp opens temp_file.Fault s own = MaybeCreates temp own
MakesFile temp opens temp_file.NoMemory s own = MaybeCreates temp own

-- the name is taken away, or named no file
abbrev pub TakesAway : PathView → Taken → State → Option Move → Type 0
TakesAway temp taken.Away s own = ((is_file s temp ≡ false) × (own ≡ None)) ⊎ (own ≡ Some (Remove temp))
TakesAway temp taken.Fault s own = Maybe (Remove temp) own
TakesAway temp taken.NoMemory s own = Maybe (Remove temp) own

-- what is open after a temporary file was made or not; told by every folder
abbrev pub TempOpens : TempFile → FolderView → FolderView → Type 0
TempOpens (temp_file.File number) old new = OpensNew true number.0 old.opens new.opens
TempOpens temp_file.Skipped old new = new.opens ≡ old.opens
TempOpens temp_file.Fault old new = new.opens ≡ old.opens
TempOpens temp_file.NoMemory old new = new.opens ≡ old.opens

-- the node that is open then is the own empty file
abbrev pub TempLeft : PathView → TempFile → FolderView → State → Type 0
TempLeft temp (temp_file.File number) new s = (file : OpenFile) → new.opens number.0 ≡ Some file → IsOwnFile new.token temp file.node [] s
TempLeft temp temp_file.Skipped new s = ⊤
TempLeft temp temp_file.Fault new s = ⊤
TempLeft temp temp_file.NoMemory new s = ⊤

-- the temporary name names the node that is open
abbrev pub TempNamed : PathView → TempFile → FolderView → Type 0
TempNamed temp (temp_file.File number) new = (file : OpenFile) → new.opens number.0 ≡ Some file → place_at (state new) temp ≡ Some (File file.node)
TempNamed temp temp_file.Skipped new = ⊤
TempNamed temp temp_file.Fault new = ⊤
TempNamed temp temp_file.NoMemory new = ⊤

-- ---- its bytes

-- the bytes stand behind those that were there
abbrev pub BytesLeft : List ℕ → PathView → ℕ → List ℕ → Wrote → State → Type 0
BytesLeft token temp n bytes wrote.All s = IsOwnFile token temp n bytes s
BytesLeft token temp n bytes wrote.Fault s = ⊤
BytesLeft token temp n bytes wrote.NoMemory s = ⊤

-- ---- the final file

-- the last of these steps is this one
abbrev pub EndsIn : Event → Trace → Type 0
EndsIn step steps = (before : Trace) × (steps ≡ before ++ step ∷ [])

-- no folder has the final or the temporary name, as in every tidy state, and their folder is there
pub record IsReady (last temp : PathView) (s : State) : Type 0 where
  pub last_free : is_folder s last ≡ false
  pub temp_free : is_folder s temp ≡ false
  pub home : has_parent s last ≡ true

-- Each own step is proper wherever all steps before it are, and each own rename gives the final name to these bytes.
-- The final name is put in place at most once.
-- Skipped is answered only where another's step made or removed one of the names or their folder, if all was ready at the entry.
pub record Publishes (root last temp : PathView) (bytes : List ℕ) (result : Published) (old new : FolderView) : Type 0 where
  pub call : Called (IsProper root) (PutsThis root last bytes) (IsFor last temp) (IsTidy root) Anywhere old new
  pub once : PutsInTurn (last ∷ []) old.token (moved old new)
  pub skipped : result ≡ published.Skipped → IsReady last temp (state old) → TouchedByOther old.token (UsesNames last temp) (moved old new)

-- ---- alone

-- the temporary name alone names the own unfrozen node, which has these bytes, and all else is as before
pub record IsDraft (token : List ℕ) (temp : PathView) (n : ℕ) (bytes : List ℕ) (before after : State) : Type 0 where
  pub named : place_at after temp ≡ Some (File n)
  pub node : node_at after n ≡ Some (record { bytes = bytes; maker = token; frozen = false })
  pub only : (p : PathView) → place_at after p ≡ Some (File n) → p ≡ temp
  pub beside : IsBeside (λ p. p ≡ temp) before after

-- the final name has the bytes, the temporary name is absent, and all else is as before
pub record IsPublished (last temp : PathView) (bytes : List ℕ) (before after : State) : Type 0 where
  pub has : bytes_at after last ≡ Some bytes
  pub gone : place_at after temp ≡ None
  pub beside : IsBeside (λ p. (p ≡ last) ⊎ (p ≡ temp)) before after

-- where no other moved: the file that is open is a draft with no bytes
abbrev pub TempAlone : PathView → TempFile → State → FolderView → Type 0
TempAlone temp (temp_file.File number) before new = (file : OpenFile) → new.opens number.0 ≡ Some file → IsDraft new.token temp file.node [] before (state new)
TempAlone temp temp_file.Skipped before new = ⊤
TempAlone temp temp_file.Fault before new = ⊤
TempAlone temp temp_file.NoMemory before new = ⊤

abbrev pub BytesAlone : List ℕ → PathView → ℕ → List ℕ → Wrote → State → State → Type 0
BytesAlone token temp n bytes wrote.All before after = IsDraft token temp n bytes before after
BytesAlone token temp n bytes wrote.Fault before after = ⊤
BytesAlone token temp n bytes wrote.NoMemory before after = ⊤
