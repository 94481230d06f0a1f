-- What reducing a cache takes away and reports.
use Rattle.std.specs.Prelude.{◌≡◌, ℕ, List, Contains, length, take, ⊤}
use Rattle.std.specs.List.Sorted.{IsPermutation, IsSorted}
use Rattle.jl_text.specs.Paths.{PathView, path_of}
use Rattle.jl_folder.specs.State.{State, Trace}
use Rattle.jl_folder.specs.Views.{FolderView, state, moved}
use Rattle.jl_entry.specs.Names.{IsBelow, below}
use Rattle.jl_rely.specs.Steps.{OwnMoves, IsLone}
use Rattle.jl_rely.specs.Claims.{Called, Anywhere, AnyMove}
use Rattle.jl_quota.specs.declared.limits.Limits.{Limits}
use Rattle.jl_protocol.specs.Whole.{CodeAnswers}
use Rattle.jl_protocol.specs.Proper.{IsProper, IsLawful}
use Rattle.jl_protocol.specs.Tidy.{IsTidy, IsSound}
use Rattle.jl_clear.specs.declared.removing.Clear.{Clear}
use Rattle.jl_clear.specs.declared.removing.Clear.TheVariants as clear
use Rattle.jl_clear.specs.Taking.{IsTaking, IsTakenAway, IsThinned, WentAway}
use Rattle.jl_clear.specs.Clearing.{Clears}
use Rattle.jl_evict.specs.declared.item.Item.{Item}
use Rattle.jl_evict.specs.declared.reading.ItemsRead.{ItemsRead}
use Rattle.jl_evict.specs.declared.reading.ItemsRead.TheVariants as items_read
use Rattle.jl_evict.specs.declared.reducing.Reduced.{Reduced}
use Rattle.jl_evict.specs.declared.reducing.Reduced.TheVariants as reduced
use Rattle.jl_evict.specs.Choosing.{item_cmp, bytes_of, IsShortest}
use Rattle.jl_evict.specs.Items.{IsEntryParts, IsItemPath, held, AreItems, WereItems}

-- ---- reading

-- each has a path of an item
abbrev pub ArePaths : List Item → Type 0
ArePaths items = (item : Item) → Contains items item → IsItemPath item.path

abbrev pub HavePaths : ItemsRead → Type 0
HavePaths (items_read.Items items) = ArePaths items.items
HavePaths items_read.FolderFault = ⊤
HavePaths items_read.NoMemory = ⊤

-- they are the items of this state
abbrev pub AreRead : (root : PathView) → State → ItemsRead → Type 0
AreRead root s (items_read.Items items) = AreItems root s items.items
AreRead root s items_read.FolderFault = ⊤
AreRead root s items_read.NoMemory = ⊤

-- they were seen so, as others moved
abbrev pub WereRead : (root : PathView) → ItemsRead → State → Trace → Type 0
WereRead root (items_read.Items items) s moves = WereItems root items.items s moves
WereRead root items_read.FolderFault s moves = ⊤
WereRead root items_read.NoMemory s moves = ⊤

-- ---- taking away

-- in the folder of some entry
abbrev pub IsOfEntry : (root : PathView) → PathView → Type 0
IsOfEntry root p = (parts : PathView) × IsEntryParts parts × IsBelow (below root parts) p

-- in the folder of this item
abbrev pub IsOf : (root : PathView) → Item → PathView → Type 0
IsOf root item p = IsBelow (below root (path_of item.path)) p

-- in the folder of one of these items
abbrev pub Chosen : (root : PathView) → List Item → PathView → Type 0
Chosen root items p = (item : Item) × Contains items item × IsOf root item p

-- what was chosen is cleared where it is reported
abbrev pub clear_of_reduced : Reduced → Clear
clear_of_reduced (reduced.Report deleted bytes) = clear.Cleared
clear_of_reduced reduced.FolderFault = clear.Fault
clear_of_reduced reduced.NoMemory = clear.NoMemory

-- these are reported
abbrev pub IsReportOf : List Item → Reduced → Type 0
IsReportOf items (reduced.Report deleted bytes) = (deleted ≡ length items) × (bytes ≡ held (bytes_of items))
IsReportOf items reduced.FolderFault = ⊤
IsReportOf items reduced.NoMemory = ⊤

-- the items in order, of which the first are chosen
pub record IsChoice (limits : Limits) (now : ℕ) (items : List Item) (count : ℕ) : Type 0 where
  pub order : IsSorted item_cmp items
  pub shortest : IsShortest limits now items count

-- those of these items that are beyond the limits were chosen, and reported; these and no others were taken away
pub record TakesFrom (root : PathView) (read : List Item) (limits : Limits) (moment : ℕ) (result : Reduced) (old new : FolderView) : Type 0 where
  pub items : List Item
  pub same : IsPermutation read items
  pub count : ℕ
  pub choice : IsChoice limits moment items count
  pub paths : ArePaths (take count items)
  pub reports : IsReportOf (take count items) result
  pub clears : Clears root Anywhere (Chosen root (take count items)) (Chosen root (take count items)) (Chosen root (take count items)) (clear_of_reduced result) old new

-- The choice is of items that were seen, and what is reported was chosen. Own moves took away nothing but what was chosen, and each name of the store there went away.
-- Where no other moved, the items are those of the state, and what was chosen is thinned, and from a tidy state it is gone, and nothing else.
pub record EvictsOf (root : PathView) (limits : Limits) (moment : ℕ) (result : Reduced) (old new : FolderView) : Type 0 where
  pub read : List Item
  pub seen : WereItems root read (state old) (moved old new)
  pub items : List Item
  pub same : IsPermutation read items
  pub count : ℕ
  pub choice : IsChoice limits moment items count
  pub reports : IsReportOf (take count items) result
  pub own : OwnMoves old.token (IsTaking root (Chosen root (take count items))) (moved old new)
  pub went : WentAway root (Chosen root (take count items)) old new
  pub are : IsLone old.token (moved old new) → AreItems root (state old) read
  pub alone : IsLone old.token (moved old new) → IsThinned root (Chosen root (take count items)) (state old) (state new)
  pub tidy : IsLone old.token (moved old new) → IsTidy root (state old) → IsTakenAway (Chosen root (take count items)) (state old) (state new)

abbrev pub Evicts : (root : PathView) → Limits → ℕ → Reduced → FolderView → FolderView → Type 0
Evicts root limits moment (reduced.Report deleted bytes) old new = EvictsOf root limits moment (reduced.Report deleted bytes) old new
Evicts root limits moment reduced.FolderFault old new = ⊤
Evicts root limits moment reduced.NoMemory old new = ⊤

-- proper in every state, whatever others do, and in the folders of entries alone; and what is reported was taken away
pub record Reduces (root : PathView) (limits : Limits) (moment : ℕ) (result : Reduced) (old new : FolderView) : Type 0 where
  pub called : Called (IsProper root) (IsProper root) (IsTaking root (IsOfEntry root)) Anywhere Anywhere old new
  pub lawful : (answers : CodeAnswers) → Called (IsLawful root answers) (IsLawful root answers) AnyMove (IsSound root answers) (IsSound root answers) old new
  pub evicts : Evicts root limits moment result old new
