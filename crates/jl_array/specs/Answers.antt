-- What the readers of dump files answer, whatever others do.
use Rattle.std.specs.Prelude.{◌≡◌, ◌≢◌, ◌⊎◌, ◌<◌, ◌+◌, ◌-◌, ◌^◌, ℕ, ℤ, false, List, ◌++◌, min}
use Rattle.std.specs.Prelude.{length, take, drop, Some, Result, Ok, Err, ⊤}
use Rattle.jl_text.specs.Paths.{PathView}
use Rattle.jl_folder.specs.declared.moves.Place.TheVariants.{File}
use Rattle.jl_folder.specs.State.{Trace, Opens, AtSome, place_at, is_file, run}
use Rattle.jl_folder.specs.Views.{FolderView, state, moved}
use Rattle.jl_folder.specs.Calls.{OpensNew}
use Rattle.jl_folder.specs.Reading.{OpenedHas}
use Rattle.jl_array.specs.Dumps.{dump_length, dump_text, numbers_bytes, AreSigned, HasPart}
use Rattle.jl_array.specs.Dumps.{IsCutOff, IsNoDump, IsDump, DiffersFrom, EndsInside}
use Rattle.jl_array.specs.Nodes.{OpenHas}
use Rattle.jl_array.specs.declared.filling.PartRead.{PartRead}
use Rattle.jl_array.specs.declared.filling.PartRead.TheVariants as part_read
use Rattle.jl_array.specs.declared.opening.Refused.{Refused}
use Rattle.jl_array.specs.declared.opening.Refused.TheVariants as refused
use Rattle.jl_array.specs.declared.opening.ArrayFile.{ArrayFile}
use Rattle.jl_array.specs.declared.opening.ArrayOpened.{ArrayOpened}
use Rattle.jl_array.specs.declared.opening.ArrayOpened.TheVariants as array_opened
use Rattle.jl_array.specs.declared.ranging.Ranged.{Ranged}
use Rattle.jl_array.specs.declared.ranging.Ranged.TheVariants as ranged
use Rattle.jl_array.specs.declared.comparing.SameArray.{SameArray}
use Rattle.jl_array.specs.declared.comparing.SameArray.TheVariants as same_array

-- ---- a part of a file

-- the buffer holds the file's bytes from this place on, or the file ends before the buffer does
abbrev pub FillsFrom : ℕ → ℕ → List ℕ → PartRead → FolderView → Type 0
FillsFrom number at buf part_read.Whole v = OpenHas number (HasPart at buf) v
FillsFrom number at buf part_read.Short v =
    OpenHas number (λ bytes. length bytes < at + length buf) v
FillsFrom number at buf part_read.Fault v = ⊤

-- the same of numbers
abbrev pub FillsNumbers : ℕ → ℕ → List ℤ → PartRead → FolderView → Type 0
FillsNumbers number at numbers r v = FillsFrom number at (numbers_bytes numbers) r v

-- ---- opening

-- cut off, if it has fewer bytes than a number of 64 bits can count
abbrev pub IsShorter : List ℕ → Type 0
IsShorter file = length file < 2 ^ 64 → IsCutOff file

-- what the open file is; of 2 ^ 64 bytes or more, which no file has, nothing is claimed
abbrev pub JudgesFile : ℕ → Result ℕ Refused → FolderView → Type 0
JudgesFile number (Ok count) v = OpenHas number (IsDump count) v
JudgesFile number (Err refused.Short) v = OpenHas number IsShorter v
JudgesFile number (Err refused.NotArray) v = OpenHas number IsNoDump v
JudgesFile number (Err refused.Fault) v = ⊤

-- a count whose file's bytes have numbers of 64 bits
abbrev pub IsCountable : Result ℕ Refused → Type 0
IsCountable (Ok count) = dump_length count < 2 ^ 64
IsCountable (Err why) = ⊤

-- the answer for it
abbrev pub answer_to : Refused → ArrayOpened
answer_to refused.Short = array_opened.Short
answer_to refused.NotArray = array_opened.NotArray
answer_to refused.Fault = array_opened.FolderFault

-- The array's number is open on the node that the path named at one step of the call.
-- At the call's end that file begins with a head that says the array's count, and is as long as
-- that says.
pub record OpensDump (path : PathView) (array : ArrayFile) (old new : FolderView) : Type 0 where
  pub before : Trace
  pub later : Trace
  pub split : moved old new ≡ before ++ later
  pub dump : OpenHas array.no.0 (IsDump array.count) new
  pub named : place_at (run (state old) before) path ≡ Some (File dump.file.node)

-- what `open_array` answers
abbrev pub OpensArray : PathView → ArrayOpened → FolderView → FolderView → Type 0
OpensArray path (array_opened.Array array) old new = OpensDump path array old new
OpensArray path array_opened.Short old new = OpenedHas path IsShorter (state old) (moved old new)
OpensArray path array_opened.NotArray old new = OpenedHas path IsNoDump (state old) (moved old new)
OpensArray path array_opened.NoFile old new =
    AtSome (state old) (moved old new) (λ s. is_file s path ≡ false)
OpensArray path array_opened.FolderFault old new = ⊤
OpensArray path array_opened.NoMemory old new = ⊤

-- what is open then; told by every folder
abbrev pub ArrayOpens : ArrayOpened → Opens → Opens → Type 0
ArrayOpens (array_opened.Array array) before after =
    OpensNew false array.no.0 before after × (dump_length array.count < 2 ^ 64)
ArrayOpens array_opened.Short before after = after ≡ before
ArrayOpens array_opened.NotArray before after = after ≡ before
ArrayOpens array_opened.NoFile before after = after ≡ before
ArrayOpens array_opened.FolderFault before after = after ≡ before
ArrayOpens array_opened.NoMemory before after = after ≡ before

-- ---- a list that stands in a file

-- the array's file begins with the text of this list, and the array has its count
pub record HoldsArray (array : ArrayFile) (list : List ℤ) (v : FolderView) : Type 0 where
  pub signed : AreSigned list
  pub count : length list ≡ array.count
  pub text : OpenHas array.no.0 (HasPart 0 (dump_text list)) v

-- ---- a range

-- how many numbers there are for so much room, from one place on
abbrev pub range_count : ArrayFile → ℕ → ℕ → ℕ
range_count array from room = min room (array.count - from)

-- that many were filled in, and what lies behind them is as it was; told by every folder
pub record RangeFills (array : ArrayFile) (from : ℕ) (out out' : List ℤ)
    (result : Ranged) : Type 0 where
  pub count : (k : ℕ) → result ≡ ranged.Filled k → k ≡ range_count array from (length out)
  pub rest : drop (range_count array from (length out)) out'
      ≡ drop (range_count array from (length out)) out

-- the file has these numbers from the place on, or it ends before so many
abbrev pub RangesFile : ArrayFile → ℕ → List ℤ → Ranged → FolderView → Type 0
RangesFile array from out (ranged.Filled k) v =
    OpenHas array.no.0 (HasPart (dump_length from) (numbers_bytes (take k out))) v
RangesFile array from out ranged.Short v =
    OpenHas array.no.0
    (λ bytes. length bytes < dump_length (from + range_count array from (length out))) v
RangesFile array from out ranged.FolderFault v = ⊤

-- the same where the file holds a list: those of the list from the place on
abbrev pub RangesList : List ℤ → ℕ → List ℤ → Ranged → Type 0
RangesList list from out (ranged.Filled k) = take k out ≡ take k (drop from list)
RangesList list from out ranged.Short = ⊥
RangesList list from out ranged.FolderFault = ⊤

-- ---- a comparison

-- behind its head the file has these bytes; or other ones; or it ends first, and has a front of
-- them
abbrev pub ComparesBytes : ℕ → List ℕ → SameArray → FolderView → Type 0
ComparesBytes number part same_array.Yes v = OpenHas number (HasPart 15 part) v
ComparesBytes number part same_array.No v = OpenHas number (DiffersFrom part) v
ComparesBytes number part same_array.Short v = OpenHas number (EndsInside part) v
ComparesBytes number part same_array.FolderFault v = ⊤

-- the array has as many numbers, and its file compares so with them; or it has more or fewer
abbrev pub ComparesFile : ArrayFile → List ℤ → SameArray → FolderView → Type 0
ComparesFile array numbers r v =
    ((length numbers ≡ array.count) × ComparesBytes array.no.0 (numbers_bytes numbers) r v)
    ⊎ ((length numbers ≢ array.count) × (r ≡ same_array.No))

-- the same where the file holds a list: whether that is these numbers
abbrev pub ComparesList : List ℤ → List ℤ → SameArray → Type 0
ComparesList list numbers same_array.Yes = numbers ≡ list
ComparesList list numbers same_array.No = numbers ≢ list
ComparesList list numbers same_array.Short = ⊥
ComparesList list numbers same_array.FolderFault = ⊤
