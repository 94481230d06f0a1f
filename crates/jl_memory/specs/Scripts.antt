-- The script that a folder in memory plays: which calls fail, where the run is cut off, and which moves others make.
use Rattle.std.specs.Prelude.{◌≡◌, ◌≢◌, ℕ, ◌-◌, ◌<◌, ◌⊎◌, List, [], ◌∷◌, ◌++◌, Bool, true, false, cond, not, ◌||◌, Option, None, Some, is_some, min, length, take, drop, nat_eq, nat_le}
use Rattle.std.specs.List.{list_any, filter, flat_map}
use Rattle.std.specs.Option.{option_map_or}
use Rattle.std.specs.Str.{bytes_eq}
use Rattle.jl_text.specs.Counts.{counted}
use Rattle.jl_memory.specs.declared.memory.MemFolder.{MemFolder}
use Rattle.jl_folder.specs.declared.moves.Move.{Move}
use Rattle.jl_folder.specs.declared.moves.Move.TheVariants.{MakeDir, Create, Append, Rename, Remove, RemoveDir}
use Rattle.jl_folder.specs.declared.moves.Node.{Node}
use Rattle.jl_folder.specs.declared.moves.OpenFile.{OpenFile}
use Rattle.jl_folder.specs.declared.folder.Created.{Created}
use Rattle.jl_folder.specs.declared.folder.Created.TheVariants as created
use Rattle.jl_folder.specs.declared.folder.Appended.{Appended}
use Rattle.jl_folder.specs.declared.folder.Appended.TheVariants as appended
use Rattle.jl_folder.specs.declared.folder.ReadAt.{ReadAt}
use Rattle.jl_folder.specs.declared.folder.ReadAt.TheVariants as read_at
use Rattle.jl_folder.specs.State.{Trace, IsForeign, node_at, own_moves}
use Rattle.jl_folder.specs.OpenTable.{opens_of}
use Rattle.jl_memory.specs.Tables.{found_node}
use Rattle.jl_memory.specs.Disk.{LetsMove, counted_times}
use Rattle.jl_memory.specs.Memory.{IsTold, mem_state}

-- how many moves the run made since it began
abbrev pub own_count : MemFolder → ℕ
own_count m = own_moves m.token (drop m.begun m.disk.trace.items)

-- whether the call that comes next is one of those that fail
abbrev pub is_failing : MemFolder → Bool
is_failing m = list_any (λ n. nat_eq n m.calls) m.failing.items

-- whether the run is cut off: it made as many moves as its stop lets it make
abbrev pub is_cut : MemFolder → Bool
is_cut m = option_map_or (λ s. nat_le s.moves (own_count m)) m.stop false

-- whether the call that comes next is to fail
abbrev pub fails : MemFolder → Bool
fails m = is_failing m || is_cut m

-- the moves of others that the script has under the number of the call that comes next, in order
abbrev pub moves_before : MemFolder → Trace
moves_before m = flat_map (λ o. o.1.items) (filter (λ o. nat_eq o.0 m.calls) m.others.items)

-- the moves that others made from one moment to a later one
abbrev pub made_by_others : MemFolder → MemFolder → Trace
made_by_others old new = filter (λ e. not (bytes_eq e.0 old.token)) (drop (length old.disk.trace.items) new.disk.trace.items)

-- the script after one call more: the moves of others under the call's number are taken out
pub record PlaysOn (old new : MemFolder) : Type 0 where
  pub calls : new.calls ≡ counted old.calls
  pub failing : new.failing ≡ old.failing
  pub stop : new.stop ≡ old.stop
  pub named : new.named ≡ old.named
  pub begun : new.begun ≡ old.begun
  pub others : new.others.items ≡ filter (λ o. not (nat_eq o.0 old.calls)) old.others.items

-- of the moves under a call's number others made, in order, those that are allowed at their turn; those for which there was no memory were left out, and counted
pub record OthersMove (old new : MemFolder) : Type 0 where
  pub lost : ℕ
  pub counts : new.disk.unmade ≡ counted_times lost old.disk.unmade
  pub lets : LetsMove lost (mem_state old) (moves_before old) (made_by_others old new)

-- what a call plays of the script: one number is used up, and the moves of others under it
pub record PlaysScript (old new : MemFolder) : Type 0 where
  pub script : PlaysOn old new
  pub moved : IsTold old → OthersMove old new

-- the script is as before
pub record SameScript (old new : MemFolder) : Type 0 where
  pub calls : new.calls ≡ old.calls
  pub failing : new.failing ≡ old.failing
  pub stop : new.stop ≡ old.stop
  pub named : new.named ≡ old.named
  pub begun : new.begun ≡ old.begun
  pub others : new.others.items ≡ old.others.items

-- the run made no move
abbrev pub NoOwnMove : MemFolder → MemFolder → Type 0
NoOwnMove old new = own_moves old.token new.disk.trace.items ≡ own_moves old.token old.disk.trace.items

-- a call fails exactly where it is to fail, and then makes no move
pub record Obeys (Fails : Type 0) (old new : MemFolder) : Type 0 where
  pub failing : fails old ≡ true → Fails × NoOwnMove old new
  pub runs : fails old ≡ false → Fails → ⊥

-- how many bytes of n an append adds at which the run is cut off; none, where one was cut off before
abbrev pub torn_of : MemFolder → ℕ → Option ℕ
torn_of m n = option_map_or (λ s. cond (nat_eq (own_count m) s.moves) (Some (min s.torn n)) None) m.stop None

-- the run made this one move, after those of others
pub record MakesOne (old new : MemFolder) (change : Move) : Type 0 where
  pub others : Trace
  pub foreign : IsForeign old.token others
  pub trace : new.disk.trace.items ≡ old.disk.trace.items ++ (others ++ (old.token, change) ∷ [])

-- the run added these bytes to the node of this number, and made no other move
pub record AddsPiece (old new : MemFolder) (number : ℕ) (piece : List ℕ) : Type 0 where
  pub file : OpenFile
  pub was_open : opens_of old.opens.items number ≡ Some file
  pub made : MakesOne old new (Append file.node piece)

-- what an append does where the run is cut off: it adds that many bytes, for which memory may want, or nothing
abbrev pub CutsAppend : MemFolder → MemFolder → ℕ → List ℕ → Appended → Option ℕ → Type 0
CutsAppend old new number bytes answer None = (answer ≡ appended.Failed) × NoOwnMove old new
CutsAppend old new number bytes answer (Some k) = ((answer ≡ appended.Failed) × AddsPiece old new number (take k bytes)) ⊎ ((answer ≡ appended.NoMemory) × NoOwnMove old new)

-- an append fails where its number is one of those that fail, and then makes no move; where the run is cut off at it or before, it does what it does there; and else it doesn't fail
pub record ObeysAppend (number : ℕ) (bytes : List ℕ) (answer : Appended) (old new : MemFolder) : Type 0 where
  pub failing : is_failing old ≡ true → (answer ≡ appended.Failed) × NoOwnMove old new
  pub cut : is_failing old ≡ false → is_cut old ≡ true → CutsAppend old new number bytes answer (torn_of old (length bytes))
  pub runs : fails old ≡ false → answer ≢ appended.Failed

-- all n bytes are added, where some are
abbrev pub AppendsAll : ℕ → Appended → Type 0
AppendsAll n (appended.Wrote k) = k ≡ n
AppendsAll n appended.Failed = Unit {0}
AppendsAll n appended.NoMemory = Unit {0}

-- as many bytes are read as the node has from the offset on and the buffer holds
abbrev pub ReadsAll : MemFolder → ℕ → ℕ → ℕ → ReadAt → Type 0
ReadsAll m number at room (read_at.Read k) = (file : OpenFile) (view : Node) → opens_of m.opens.items number ≡ Some file → node_at (mem_state m) file.node ≡ Some view → k ≡ min room (length view.bytes - at)
ReadsAll m number at room read_at.Failed = Unit {0}

-- the numbers of nodes that a move names
abbrev pub named_by : Move → List ℕ
named_by (MakeDir p) = []
named_by (Create p n) = n ∷ []
named_by (Append n bytes) = n ∷ []
named_by (Rename p q) = []
named_by (Remove p) = []
named_by (RemoveDir p) = []

-- the numbers of nodes that moves name, in order
abbrev pub named_in : Trace → List ℕ
named_in moves = flat_map (λ e. named_by e.1) moves

-- whether a node has the number, or it is among these
abbrev pub is_taken : List (ℕ × Node) → List ℕ → ℕ → Bool
is_taken nodes named n = is_some (found_node nodes n) || list_any (λ k. nat_eq k n) named

-- the least number that isn't taken
abbrev pub IsLeastFree : List (ℕ × Node) → List ℕ → ℕ → Type 0
IsLeastFree nodes named n = (is_taken nodes named n ≡ false) × ((k : ℕ) → k < n → is_taken nodes named k ≡ true)

-- the new file's node: no move of others names its number, and each lesser one is a node's or is named
abbrev pub TakesLeast : MemFolder → Created → Type 0
TakesLeast m created.Exists = Unit {0}
TakesLeast m created.NoParent = Unit {0}
TakesLeast m (created.Made number) = (file : OpenFile) → opens_of m.opens.items number.0 ≡ Some file → (list_any (λ k. nat_eq k file.node) m.named.items ≡ false) × ((k : ℕ) → k < file.node → (is_some (node_at (mem_state m) k) || list_any (λ j. nat_eq j k) m.named.items) ≡ true)
TakesLeast m created.Failed = Unit {0}
TakesLeast m created.NoMemory = Unit {0}
