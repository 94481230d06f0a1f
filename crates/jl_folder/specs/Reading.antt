-- What a reading answers, while others move.
use Rattle.std.specs.Prelude.{◌≡◌, ℕ, ◌≤◌, List, ◌++◌, false, Some, length, take}
use Rattle.jl_folder.specs.declared.moves.Place.TheVariants.{File}
use Rattle.jl_folder.specs.declared.moves.Node.{Node}
use Rattle.jl_folder.specs.declared.moves.OpenFile.{OpenFile}
use Rattle.jl_folder.specs.declared.read.FileRead.{FileRead}
use Rattle.jl_folder.specs.declared.read.FileRead.TheVariants as file_read
use Rattle.jl_folder.specs.declared.read.OpenRead.{OpenRead}
use Rattle.jl_folder.specs.declared.read.OpenRead.TheVariants as open_read
use Rattle.jl_text.specs.Paths.{PathView}
use Rattle.jl_folder.specs.State.{State, Trace, AtSome, place_at, node_at, is_file, run}
use Rattle.jl_folder.specs.Views.{FolderView, state, moved}

-- the same answer of `read_file`
abbrev pub file_of : OpenRead → FileRead
file_of (open_read.Bytes bytes) = file_read.Bytes bytes
file_of open_read.Failed = file_read.Failed
file_of open_read.NoMemory = file_read.NoMemory

-- at one state of the call the node had these bytes, or began with them where no more are wanted
pub record ReadsNode (node most : ℕ) (bytes : List ℕ) (s : State) (moves : Trace) : Type 0 where
  pub before : Trace
  pub later : Trace
  pub split : moves ≡ before ++ later
  pub view : Node
  pub node_is : node_at (run s before) node ≡ Some view
  pub bytes_are : bytes ≡ take most view.bytes

-- what `read_open` answers
abbrev pub ReadsOpen : ℕ → ℕ → OpenRead → FolderView → FolderView → Type 0
ReadsOpen number most (open_read.Bytes bytes) old new = (file : OpenFile) → old.opens number ≡ Some file → ReadsNode file.node most bytes (state old) (moved old new)
ReadsOpen number most open_read.Failed old new = Unit {0}
ReadsOpen number most open_read.NoMemory old new = Unit {0}

-- at one state of the call the path named a node, whose bytes had P at that state or at a later one
pub record OpenedHas (path : PathView) (P : List ℕ → Type 0) (s : State) (moves : Trace) : Type 0 where
  pub before : Trace
  pub middle : Trace
  pub later : Trace
  pub split : moves ≡ before ++ (middle ++ later)
  pub node : ℕ
  pub named : place_at (run s before) path ≡ Some (File node)
  pub view : Node
  pub node_is : node_at (run s (before ++ middle)) node ≡ Some view
  pub has : P view.bytes

-- such a node had these bytes, or began with them where no more are wanted
abbrev pub ReadsNamed : PathView → ℕ → List ℕ → State → Trace → Type 0
ReadsNamed path most bytes s moves = OpenedHas path (λ held. bytes ≡ take most held) s moves

-- what `read_file` answers
abbrev pub ReadsFile : PathView → ℕ → FileRead → State → Trace → Type 0
ReadsFile path most (file_read.Bytes bytes) s moves = ReadsNamed path most bytes s moves
ReadsFile path most file_read.NoFile s moves = AtSome s moves (λ s. is_file s path ≡ false)
ReadsFile path most file_read.Failed s moves = Unit {0}
ReadsFile path most file_read.NoMemory s moves = Unit {0}

-- no more bytes than are wanted; told by every folder
abbrev pub FileWithin : ℕ → FileRead → Type 0
FileWithin most (file_read.Bytes bytes) = length bytes ≤ most
FileWithin most file_read.NoFile = Unit {0}
FileWithin most file_read.Failed = Unit {0}
FileWithin most file_read.NoMemory = Unit {0}

-- no more bytes than are wanted; told by every folder
abbrev pub OpenWithin : ℕ → OpenRead → Type 0
OpenWithin most (open_read.Bytes bytes) = length bytes ≤ most
OpenWithin most open_read.Failed = Unit {0}
OpenWithin most open_read.NoMemory = Unit {0}
