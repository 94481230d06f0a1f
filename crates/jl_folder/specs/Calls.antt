-- What a call of a folder does: moves of others, then at most one of its own, and the answer of the state between.
use Rattle.std.specs.Prelude.{◌≡◌, ◌⊎◌, ℕ, ◌-◌, ◌<◌, ◌≤◌, List, [], ◌∷◌, ◌++◌, Bool, true, false, Option, None, Some, IsSome, length, take, drop}
use Rattle.jl_folder.specs.declared.moves.Place.TheVariants.{File}
use Rattle.jl_folder.specs.declared.moves.Move.{Move}
use Rattle.jl_folder.specs.declared.moves.Move.TheVariants.{MakeDir, Create, Append, Rename, Remove, RemoveDir}
use Rattle.jl_folder.specs.declared.moves.Node.{Node}
use Rattle.jl_folder.specs.declared.folder.MadeDir.{MadeDir}
use Rattle.jl_folder.specs.declared.folder.MadeDir.TheVariants as made_dir
use Rattle.jl_folder.specs.declared.folder.Created.{Created}
use Rattle.jl_folder.specs.declared.folder.Created.TheVariants as created
use Rattle.jl_folder.specs.declared.folder.Appended.{Appended}
use Rattle.jl_folder.specs.declared.folder.Appended.TheVariants as appended
use Rattle.jl_folder.specs.declared.folder.Renamed.{Renamed}
use Rattle.jl_folder.specs.declared.folder.Renamed.TheVariants as renamed
use Rattle.jl_folder.specs.declared.folder.Removed.{Removed}
use Rattle.jl_folder.specs.declared.folder.Removed.TheVariants as removed
use Rattle.jl_folder.specs.declared.folder.RemovedDir.{RemovedDir}
use Rattle.jl_folder.specs.declared.folder.RemovedDir.TheVariants as removed_dir
use Rattle.jl_folder.specs.declared.folder.SizeOf.{SizeOf}
use Rattle.jl_folder.specs.declared.folder.SizeOf.TheVariants as size_of
use Rattle.jl_folder.specs.declared.folder.Opened.{Opened}
use Rattle.jl_folder.specs.declared.folder.Opened.TheVariants as opened
use Rattle.jl_folder.specs.declared.folder.ReadAt.{ReadAt}
use Rattle.jl_folder.specs.declared.folder.ReadAt.TheVariants as read_at
use Rattle.jl_folder.specs.declared.moves.OpenFile.{OpenFile}
use Rattle.jl_text.specs.Paths.{PathView, is_fixed, parent}
use Rattle.jl_folder.specs.State.{State, Trace, Opens, place_at, node_at, is_folder, has_parent, is_file, IsEmptyFolder, IsTrace, IsForeign, run, put_open}
use Rattle.jl_folder.specs.Views.{FolderView, state}

-- the call's own moves
abbrev pub own_event : List ℕ → Option Move → Trace
own_event me None = []
own_event me (Some m) = (me, m) ∷ []

-- moves of others, then at most one of its own; `answer` speaks of the state between and of the own move
pub record Call (old new : FolderView) (Answer : State → Option Move → Type 0) : Type 0 where
  pub others : Trace
  pub own : Option Move
  pub foreign : IsForeign old.token others
  pub start : new.history.start ≡ old.history.start
  pub trace : new.history.trace ≡ old.history.trace ++ (others ++ own_event old.token own)
  pub lawful : IsTrace (state old) (others ++ own_event old.token own)
  pub answer : Answer (run (state old) others) own

-- this own move or none
abbrev pub Maybe : Move → Option Move → Type 0
Maybe move own = (own ≡ None) ⊎ (own ≡ Some move)

-- others moved, and nobody else
pub record Waits (old new : FolderView) : Type 0 where
  pub others : Trace
  pub foreign : IsForeign old.token others
  pub start : new.history.start ≡ old.history.start
  pub trace : new.history.trace ≡ old.history.trace ++ others
  pub lawful : IsTrace (state old) others

-- what `make_dir` answers and does
abbrev pub MakesDir : PathView → MadeDir → State → Option Move → Type 0
MakesDir p made_dir.Exists s own = IsSome (place_at s p) × (own ≡ None)
MakesDir p made_dir.NoParent s own = (place_at s p ≡ None) × (has_parent s p ≡ false) × (own ≡ None)
MakesDir p made_dir.Made s own = (place_at s p ≡ None) × (has_parent s p ≡ true) × (own ≡ Some (MakeDir p))
MakesDir p made_dir.Failed s own = Maybe (MakeDir p) own
MakesDir p made_dir.NoMemory s own = Maybe (MakeDir p) own

-- a new empty node, open under this number
pub record Creates (p : PathView) (number : ℕ) (after : Opens) (s : State) (own : Option Move) : Type 0 where
  pub node : ℕ
  pub free : place_at s p ≡ None
  pub parented : has_parent s p ≡ true
  pub unused : node_at s node ≡ None
  pub move_is : own ≡ Some (Create p node)
  pub is_open : after number ≡ Some (record { node = node; made = true })

-- a file was made or not, and isn't open
abbrev pub MaybeCreates : PathView → Option Move → Type 0
MaybeCreates p own = (own ≡ None) ⊎ ((node : ℕ) × (own ≡ Some (Create p node)))

-- what `create` answers and does
abbrev pub CreatesFile : PathView → Opens → Created → State → Option Move → Type 0
CreatesFile p after created.Exists s own = IsSome (place_at s p) × (own ≡ None)
CreatesFile p after created.NoParent s own = (place_at s p ≡ None) × (has_parent s p ≡ false) × (own ≡ None)
CreatesFile p after (created.Made number) s own = Creates p number.0 after s own
CreatesFile p after created.Failed s own = MaybeCreates p own
CreatesFile p after created.NoMemory s own = MaybeCreates p own

-- this number is open on a file that `create` made
abbrev pub IsMade : Opens → ℕ → Type 0
IsMade opens number = (file : OpenFile) × (opens number ≡ Some file) × (file.made ≡ true)

-- this number is open
abbrev pub IsOpen : Opens → ℕ → Type 0
IsOpen opens number = IsSome (opens number)

-- a number that wasn't open is open now, and all else is as before; told by every folder
pub record OpensNew (made : Bool) (number : ℕ) (before after : Opens) : Type 0 where
  pub file : OpenFile
  pub made_is : file.made ≡ made
  pub fresh : before number ≡ None
  pub opens : after ≡ put_open before number file

-- what is open after `create`
abbrev pub CreatedOpens : Created → Opens → Opens → Type 0
CreatedOpens created.Exists before after = after ≡ before
CreatedOpens created.NoParent before after = after ≡ before
CreatedOpens (created.Made number) before after = OpensNew true number.0 before after
CreatedOpens created.Failed before after = after ≡ before
CreatedOpens created.NoMemory before after = after ≡ before

-- what is open after `open_file`
abbrev pub OpenedOpens : Opened → Opens → Opens → Type 0
OpenedOpens opened.NoFile before after = after ≡ before
OpenedOpens (opened.Opened number) before after = OpensNew false number.0 before after
OpenedOpens opened.Failed before after = after ≡ before
OpenedOpens opened.NoMemory before after = after ≡ before

-- the first k bytes were appended to the node of this number
pub record AppendsPart (number : ℕ) (bytes : List ℕ) (k : ℕ) (opens : Opens) (own : Option Move) : Type 0 where
  pub file : OpenFile
  pub was_open : opens number ≡ Some file
  pub move_is : own ≡ Some (Append file.node (take k bytes))

-- a first part of the bytes was appended, or nothing
abbrev pub MaybeAppends : ℕ → List ℕ → Opens → Option Move → Type 0
MaybeAppends number bytes opens own = (own ≡ None) ⊎ ((k : ℕ) × (k ≤ length bytes) × AppendsPart number bytes k opens own)

-- what `append` answers and does
abbrev pub AppendsBytes : ℕ → List ℕ → Opens → Appended → State → Option Move → Type 0
AppendsBytes number bytes opens (appended.Wrote k) s own = AppendsPart number bytes k opens own
AppendsBytes number bytes opens appended.Failed s own = MaybeAppends number bytes opens own
AppendsBytes number bytes opens appended.NoMemory s own = MaybeAppends number bytes opens own

-- some of the bytes, and all of none; told by every folder
abbrev pub AppendsSome : ℕ → Appended → Type 0
AppendsSome n (appended.Wrote k) = (k ≤ n) × (0 < n → 0 < k)
AppendsSome n appended.Failed = Unit {0}
AppendsSome n appended.NoMemory = Unit {0}

-- what `rename` answers and does
abbrev pub RenamesFile : PathView → PathView → Renamed → State → Option Move → Type 0
RenamesFile p q renamed.NoFile s own = (is_file s p ≡ false) × (own ≡ None)
RenamesFile p q renamed.NoParent s own = (is_file s p ≡ true) × (has_parent s q ≡ false) × (own ≡ None)
RenamesFile p q renamed.Blocked s own = (is_file s p ≡ true) × (has_parent s q ≡ true) × (is_folder s q ≡ true) × (own ≡ None)
RenamesFile p q renamed.Done s own = (is_file s p ≡ true) × (has_parent s q ≡ true) × (is_folder s q ≡ false) × (own ≡ Some (Rename p q))
RenamesFile p q renamed.Failed s own = Maybe (Rename p q) own
RenamesFile p q renamed.NoMemory s own = Maybe (Rename p q) own

-- what `remove` answers and does
abbrev pub RemovesFile : PathView → Removed → State → Option Move → Type 0
RemovesFile p removed.NoFile s own = (is_file s p ≡ false) × (own ≡ None)
RemovesFile p removed.Done s own = (is_file s p ≡ true) × (own ≡ Some (Remove p))
RemovesFile p removed.Failed s own = Maybe (Remove p) own
RemovesFile p removed.NoMemory s own = Maybe (Remove p) own

-- some path has it as its parent, or it is the current folder or the topmost
abbrev pub IsParent : State → PathView → Type 0
IsParent s p = (is_fixed p ≡ true) ⊎ ((q : PathView) × (is_fixed q ≡ false) × (parent q ≡ p) × IsSome (place_at s q))

-- what `remove_dir` answers and does
abbrev pub RemovesFolder : PathView → RemovedDir → State → Option Move → Type 0
RemovesFolder p removed_dir.NoDir s own = (is_folder s p ≡ false) × (own ≡ None)
RemovesFolder p removed_dir.NotEmpty s own = (is_folder s p ≡ true) × IsParent s p × (own ≡ None)
RemovesFolder p removed_dir.Done s own = (is_folder s p ≡ true) × (is_fixed p ≡ false) × IsEmptyFolder s p × (own ≡ Some (RemoveDir p))
RemovesFolder p removed_dir.Failed s own = Maybe (RemoveDir p) own
RemovesFolder p removed_dir.NoMemory s own = Maybe (RemoveDir p) own

-- this number is open on the node that the path names
pub record OpensNode (p : PathView) (number : ℕ) (after : Opens) (s : State) (own : Option Move) : Type 0 where
  pub node : ℕ
  pub named : place_at s p ≡ Some (File node)
  pub move_is : own ≡ None
  pub is_open : after number ≡ Some (record { node = node; made = false })

-- what `open_file` answers
abbrev pub OpensFile : PathView → Opens → Opened → State → Option Move → Type 0
OpensFile p after opened.NoFile s own = (is_file s p ≡ false) × (own ≡ None)
OpensFile p after (opened.Opened number) s own = OpensNode p number.0 after s own
OpensFile p after opened.Failed s own = own ≡ None
OpensFile p after opened.NoMemory s own = own ≡ None

-- k bytes of the node, from an offset on, stand at the front of the buffer
pub record ReadsPart (number at k : ℕ) (buf buf' : List ℕ) (opens : Opens) (s : State) (own : Option Move) : Type 0 where
  pub file : OpenFile
  pub view : Node
  pub was_open : opens number ≡ Some file
  pub node_is : node_at s file.node ≡ Some view
  pub bytes : buf' ≡ take k (drop at view.bytes) ++ drop k buf
  pub within : k ≤ length view.bytes - at
  pub at_end : k ≡ 0 → length view.bytes ≤ at
  pub move_is : own ≡ None

-- what `read_at` answers
abbrev pub ReadsBytes : ℕ → ℕ → List ℕ → List ℕ → Opens → ReadAt → State → Option Move → Type 0
ReadsBytes number at buf buf' opens (read_at.Read k) s own = ReadsPart number at k buf buf' opens s own
ReadsBytes number at buf buf' opens read_at.Failed s own = own ≡ None

-- at most the buffer's length; told by every folder
abbrev pub ReadsWithin : ℕ → ReadAt → Type 0
ReadsWithin n (read_at.Read k) = k ≤ n
ReadsWithin n read_at.Failed = Unit {0}

-- what `size` answers
abbrev pub SizesFile : PathView → SizeOf → State → Option Move → Type 0
SizesFile p size_of.NoFile s own = (is_file s p ≡ false) × (own ≡ None)
SizesFile p (size_of.Size k) s own = ((n : ℕ) × (view : Node) × (place_at s p ≡ Some (File n)) × (node_at s n ≡ Some view) × (k ≡ length view.bytes)) × (own ≡ None)
SizesFile p size_of.Failed s own = own ≡ None
SizesFile p size_of.NoMemory s own = own ≡ None

-- it makes no move
abbrev pub NoMove : State → Option Move → Type 0
NoMove s own = own ≡ None
