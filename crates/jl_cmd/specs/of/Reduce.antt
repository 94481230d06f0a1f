-- What the command `reduce-size` takes away and prints, and how it ends.
use Rattle.std.specs.Prelude.{◌≡◌, ◌≢◌, ℕ, List, [], ◌∷◌, ◌++◌, codes}
use Rattle.std.specs.Fmt.{decimal}
use Rattle.jl_text.specs.Counts.{Rose}
use Rattle.jl_text.specs.Paths.{PathView}
use Rattle.jl_folder.specs.Views.{FolderView, state, moved}
use Rattle.jl_streams.specs.Moments.{moment_of, moments_after}
use Rattle.jl_streams.specs.Streams.{WritesPrefix}
use Rattle.jl_streams.specs.Views.{SinkView, HostView}
use Rattle.jl_entry.specs.Names.{root_of}
use Rattle.jl_quota.specs.declared.limits.Limits.{Limits}
use Rattle.jl_rely.specs.Steps.{OwnMoves}
use Rattle.jl_protocol.specs.Whole.{CodeAnswers}
use Rattle.jl_protocol.specs.Proper.{LawfulThroughout}
use Rattle.jl_clear.specs.Taking.{IsTaking}
use Rattle.jl_evict.specs.declared.reducing.Reduced.TheVariants as reduced
use Rattle.jl_evict.specs.Reducing.{IsOfEntry, EvictsOf}
use Rattle.jl_cmd.specs.declared.ended.Ended.{Ended}
use Rattle.jl_cmd.specs.declared.ended.Ended.TheVariants.{Done, WriteFault, NoMemory, FolderFault}
use Rattle.jl_cmd.specs.Course.{Course}
use Rattle.jl_cmd.specs.Endings.{WritesNothing, status_of}
use Rattle.jl_cmd.specs.Statuses as status

-- the line that tells how many items went, and how many bytes they had
unfoldable pub report_of : (count bytes : ℕ) → List ℕ
report_of count bytes = codes "deleted " ++ (decimal count ++ (codes " items " ++ (decimal bytes ++ (codes " bytes" ++ 10 ∷ []))))

-- the first of the moments that a clock is still to tell, where it tells them
abbrev pub IsMomentOf : (clock : HostView) → ℕ → Type 0
IsMomentOf clock n = clock.told → n ≡ moment_of clock.moments

-- So many items with so many bytes were chosen by the limits, at the clock's moment, among items that were seen; the run's own moves took away names of
-- theirs alone, and each of these went away. Where no other moved, they were chosen among the items that the cache had, and they are gone, and nothing else.
pub record IsReported (location : PathView) (limits : Limits) (clock : HostView) (old new : FolderView) (count bytes : ℕ) : Type 0 where
  pub moment : ℕ
  pub tells : IsMomentOf clock moment
  pub evicts : old.told → EvictsOf (root_of location) limits moment (reduced.Report count bytes) old new

-- the line of what was reported was written, or a front of it where the output failed; else the folder's faults rose, or memory was wanting, and nothing was
abbrev pub EndsReducing : Ended → (Reported : ℕ → ℕ → Type 0) → (folder folder' : FolderView) → (out out' : SinkView) → Type 0
EndsReducing Done Reported folder folder' out out' = (count bytes : ℕ) × Reported count bytes × (out.told → out'.written ≡ out.written ++ report_of count bytes)
EndsReducing WriteFault Reported folder folder' out out' =
    (count bytes : ℕ) × Reported count bytes × Rose out.faults out'.faults × (out.told → WritesPrefix (report_of count bytes) out.written out'.written)
EndsReducing FolderFault Reported folder folder' out out' = Rose folder.faults folder'.faults × WritesNothing out out'
EndsReducing NoMemory Reported folder folder' out out' = WritesNothing out out'
EndsReducing _ Reported folder folder' out out' = ⊥

-- the run's own moves take away names of the store in the folders of entries, and these, and are lawful throughout
pub record ReducesLawfully (location : PathView) (answer : CodeAnswers) (old new : FolderView) : Type 0 where
  pub takes : OwnMoves old.token (IsTaking (root_of location) (IsOfEntry (root_of location))) (moved old new)
  pub lawful : LawfulThroughout (root_of location) answer old.token (state old) (moved old new)

-- what a reducing did: it ended so, and read the clock once, unless memory was wanting for the words
pub record ReduceDid (location : PathView) (limits : Limits) (w : Course) (e : Ended) : Type 0 where
  pub ends : EndsReducing e (IsReported location limits w.host w.folder w.folder') w.folder w.folder' w.out w.out'
  pub clock : w.host.told → status_of e ≢ status.no_memory → w.host'.moments ≡ moments_after w.host.moments
