-- What a dump does, whatever others do.
use Rattle.std.specs.Prelude.{◌≡◌, ◌≢◌, ◌⊎◌, ◌≤◌, ℕ, ℤ, true, false, List, [], ◌++◌, length}
use Rattle.std.specs.Prelude.{None, Some, IsSome}
use Rattle.jl_text.specs.Paths.{PathView}
use Rattle.jl_text.specs.declared.limits.TheConstants.{PIECE_BYTES}
use Rattle.jl_folder.specs.declared.moves.Place.TheVariants.{File}
use Rattle.jl_folder.specs.declared.moves.Node.{Node}
use Rattle.jl_folder.specs.declared.moves.OpenFile.{OpenFile}
use Rattle.jl_folder.specs.declared.moves.Move.{Move}
use Rattle.jl_folder.specs.declared.moves.Move.TheVariants.{MakeDir, Create, Append}
use Rattle.jl_folder.specs.declared.moves.Move.TheVariants.{Rename, Remove, RemoveDir}
use Rattle.jl_folder.specs.State.{State, AtSome, place_at, node_at, has_parent}
use Rattle.jl_folder.specs.Views.{FolderView, state, moved}
use Rattle.jl_folder.specs.Calls.{Call}
use Rattle.jl_rely.specs.Steps.{StepFact}
use Rattle.jl_rely.specs.Claims.{Called, Moves, Anywhere, Silent}
use Rattle.jl_rely.specs.Touches.{Touches}
use Rattle.jl_array.specs.Dumps.{dump_text}
use Rattle.jl_array.specs.declared.appending.Wrote.{Wrote}
use Rattle.jl_array.specs.declared.appending.Wrote.TheVariants as wrote
use Rattle.jl_array.specs.declared.dumping.Dumped.{Dumped}
use Rattle.jl_array.specs.declared.dumping.Dumped.TheVariants as dumped

-- ---- moves

-- makes the file of this name, or appends a piece
unfoldable pub IsOfDump : PathView → Move → Type 0
IsOfDump path (MakeDir p) = ⊥
IsOfDump path (Create p n) = p ≡ path
IsOfDump path (Append n bytes) = length bytes ≤ PIECE_BYTES
IsOfDump path (Rename p q) = ⊥
IsOfDump path (Remove p) = ⊥
IsOfDump path (RemoveDir p) = ⊥

-- this run made the node, and it isn't frozen
pub record IsOwnNode (token : List ℕ) (n : ℕ) (s : State) : Type 0 where
  pub view : Node
  pub node : node_at s n ≡ Some view
  pub maker : view.maker ≡ token
  pub unfrozen : view.frozen ≡ false

-- the path names such a node
pub record NamesOwn (path : PathView) (token : List ℕ) (n : ℕ) (s : State) : Type 0 where
  pub named : place_at s path ≡ Some (File n)
  pub own : IsOwnNode token n s

-- makes the file of this name, or appends to the own unfrozen file that it names
unfoldable pub WritesNamed : PathView → StepFact
WritesNamed path token s (MakeDir p) = ⊥
WritesNamed path token s (Create p n) = p ≡ path
WritesNamed path token s (Append n bytes) = NamesOwn path token n s
WritesNamed path token s (Rename p q) = ⊥
WritesNamed path token s (Remove p) = ⊥
WritesNamed path token s (RemoveDir p) = ⊥

-- appends to the file that the path names
unfoldable pub AppendsTo : PathView → State → Move → Type 0
AppendsTo path s (MakeDir p) = ⊥
AppendsTo path s (Create p n) = ⊥
AppendsTo path s (Append n bytes) = place_at s path ≡ Some (File n)
AppendsTo path s (Rename p q) = ⊥
AppendsTo path s (Remove p) = ⊥
AppendsTo path s (RemoveDir p) = ⊥

-- a move of another run neither makes nor removes this name, nor appends to the file that it names
abbrev pub Spares : PathView → List ℕ → StepFact
Spares path mine token s m = token ≢ mine → (Touches m path → ⊥) × (AppendsTo path s m → ⊥)

-- Own moves make this file or append pieces, whatever others do.
-- Begun where Pre held, each append is to the own unfrozen file that the path names, wherever
-- others spared it before; and where all of them spare it, the call ends where Post holds.
abbrev pub Dumping : PathView → List ℕ → (Pre Post : State → Type 0) → (old new : FolderView)
    → Type 0
Dumping path mine Pre Post old new =
    Called (Spares path mine) (WritesNamed path) (IsOfDump path) Pre Post old new

-- ---- a file that others may take away

-- makes the file of this name, or appends to an own unfrozen file
unfoldable pub WritesOwn : PathView → StepFact
WritesOwn path token s (MakeDir p) = ⊥
WritesOwn path token s (Create p n) = p ≡ path
WritesOwn path token s (Append n bytes) = IsOwnNode token n s
WritesOwn path token s (Rename p q) = ⊥
WritesOwn path token s (Remove p) = ⊥
WritesOwn path token s (RemoveDir p) = ⊥

-- gives the file of this name another one
unfoldable pub IsRenamedFrom : PathView → Move → Type 0
IsRenamedFrom path (MakeDir p) = ⊥
IsRenamedFrom path (Create p n) = ⊥
IsRenamedFrom path (Append n bytes) = ⊥
IsRenamedFrom path (Rename p q) = p ≡ path
IsRenamedFrom path (Remove p) = ⊥
IsRenamedFrom path (RemoveDir p) = ⊥

-- a move of another run doesn't give the file of this name another one
abbrev pub KeepsName : PathView → List ℕ → StepFact
KeepsName path mine token s m = token ≢ mine → IsRenamedFrom path m → ⊥

-- Own moves make this file or append pieces, whatever others do. Begun where Pre held, each append
-- is to an own unfrozen file, wherever others gave this one no other name before; and where none
-- does, the call ends where Post holds.
abbrev pub Filling : PathView → List ℕ → (Pre Post : State → Type 0) → (old new : FolderView)
    → Type 0
Filling path mine Pre Post old new =
    Called (KeepsName path mine) (WritesOwn path) (IsOfDump path) Pre Post old new

-- this run's unfrozen node, which no path but this one names
pub record IsHeld (token : List ℕ) (path : PathView) (n : ℕ) (s : State) : Type 0 where
  pub own : IsOwnNode token n s
  pub only : (p : PathView) → place_at s p ≡ Some (File n) → p ≡ path

-- a call that writes to an open file of this run, whose one name is this path
abbrev pub Holding : (old new : FolderView) (number : ℕ) → Type 0
Holding old new number =
    old.told → (file : OpenFile) → old.opens number ≡ Some file → (path : PathView)
    → Filling path old.token (IsHeld old.token path file.node) (IsHeld old.token path file.node)
    old new

-- ---- what is written

-- the path alone names this node, which this run made, which isn't frozen, and which has these
-- bytes
pub record IsWritten (token : List ℕ) (path : PathView) (n : ℕ) (bytes : List ℕ)
    (s : State) : Type 0 where
  pub named : place_at s path ≡ Some (File n)
  pub node : node_at s n ≡ Some (record { bytes = bytes; maker = token; frozen = false })
  pub only : (p : PathView) → place_at s p ≡ Some (File n) → p ≡ path

-- of more bytes a front was written
pub record IsFrontWritten (token : List ℕ) (path : PathView) (n : ℕ) (start bytes : List ℕ)
    (s : State) : Type 0 where
  pub front : List ℕ
  pub rest : List ℕ
  pub parts : bytes ≡ front ++ rest
  pub written : IsWritten token path n (start ++ front) s

-- all of more bytes were written, or a front
abbrev pub Written : List ℕ → PathView → ℕ → List ℕ → List ℕ → Wrote → State → Type 0
Written token path n start bytes wrote.All s = IsWritten token path n (start ++ bytes) s
Written token path n start bytes wrote.Fault s = IsFrontWritten token path n start bytes s
Written token path n start bytes wrote.NoMemory s = IsFrontWritten token path n start bytes s

-- ---- a dump

-- the path names a file of this run with exactly this text, which no other path names
abbrev pub HasText : List ℕ → PathView → List ℕ → State → Type 0
HasText token path text s = (n : ℕ) × IsWritten token path n text s

-- the path names such a file with a front of it
abbrev pub HasFront : List ℕ → PathView → List ℕ → State → Type 0
HasFront token path text s = (n : ℕ) × IsFrontWritten token path n [] text s

-- the path names nothing, and its parent is a folder
abbrev pub CanMake : PathView → State → Type 0
CanMake path s = (place_at s path ≡ None) × (has_parent s path ≡ true)

-- the file was made where there was none, and has the text at the end, where others spared it
pub record DumpsList (path : PathView) (numbers : List ℤ) (old new : FolderView) : Type 0 where
  pub free : AtSome (state old) (moved old new) (CanMake path)
  pub call : Dumping path old.token Anywhere (HasText old.token path (dump_text numbers)) old new

-- no own move, or the file was made and has a front of the text at the end, where others spared it
abbrev pub StopsDump : PathView → List ℤ → FolderView → FolderView → Type 0
StopsDump path numbers old new =
    Moves Silent old new
    ⊎ Dumping path old.token Anywhere (HasFront old.token path (dump_text numbers)) old new

-- what `dump` answers and does; where it refuses, it made no move
abbrev pub Dumps : PathView → List ℤ → Dumped → FolderView → FolderView → Type 0
Dumps path numbers dumped.Done old new = DumpsList path numbers old new
Dumps path numbers dumped.Exists old new =
    Call old new (λ s own. IsSome (place_at s path) × (own ≡ None))
Dumps path numbers dumped.NoParent old new =
    Call old new
    (λ s own. (place_at s path ≡ None) × (has_parent s path ≡ false) × (own ≡ None))
Dumps path numbers dumped.FolderFault old new = StopsDump path numbers old new
Dumps path numbers dumped.NoMemory old new = StopsDump path numbers old new
