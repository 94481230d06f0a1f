-- What a run of the tracker reads, takes away and tells.
use Rattle.std.specs.Prelude.{◌≡◌, ◌≢◌, ◌≤◌, ◌⊎◌, ℕ, List, [], ◌∷◌, ◌++◌, ⊤}
use Rattle.jl_text.specs.Paths.{PathView, path_of}
use Rattle.jl_folder.specs.Views.{FolderView, state, moved}
use Rattle.jl_streams.specs.Views.{SourceView, SinkView}
use Rattle.jl_entry.specs.Names.{IsOutside}
use Rattle.jl_protocol.specs.Whole.{CodeAnswers}
use Rattle.jl_protocol.specs.Proper.{LawfulThroughout}
use Rattle.jl_tracker.specs.declared.line.Kind.{Kind}
use Rattle.jl_tracker.specs.declared.line.Kind.TheVariants as kind
use Rattle.jl_tracker.specs.declared.following.Tracked.{Tracked}
use Rattle.jl_tracker.specs.declared.following.Tracked.TheVariants as tracked
use Rattle.jl_tracker.specs.Effects.{Effect, reports_bad, reports_unknown, reports_leaked, removes}
use Rattle.jl_tracker.specs.Stages.{SinkPoint, stage}
use Rattle.jl_tracker.specs.Taking.{all_effects, MovesAsked}
use Rattle.jl_tracker.specs.Tracking.{Tracks}
use Rattle.jl_cmd.specs.declared.ended.Ended.{Ended}
use Rattle.jl_cmd.specs.declared.ended.Ended.TheVariants.{Done, Refused, ReadFault, NoMemory}
use Rattle.jl_cmd.specs.Course.{Course, IsClear}
use Rattle.jl_cmd.specs.Endings.{status_of, last_text}
use Rattle.jl_cmd.specs.Output.{refuses_input}
use Rattle.jl_cmd.specs.Reporting.{sink_at}

-- ---- moves

-- the resource lies outside of the root of a cache; a folder is not the current one
abbrev pub LiesOutside : PathView → Kind → List ℕ → Type 0
LiesOutside root kind.File name = IsOutside root (path_of name)
LiesOutside root kind.Folder name = IsOutside root (path_of name) × (path_of name ≢ [])
LiesOutside root kind.Semlock name = ⊤

-- what these effects take away lies outside of it
abbrev pub AreOutside : PathView → List Effect → Type 0
AreOutside root [] = ⊤
AreOutside root (reports_bad number ∷ es) = AreOutside root es
AreOutside root (reports_unknown k name ∷ es) = AreOutside root es
AreOutside root (reports_leaked k name ∷ es) = AreOutside root es
AreOutside root (removes k name ∷ es) = LiesOutside root k name × AreOutside root es

-- The tracker's own moves take away what the lines that it read ask for, which are the first of its input where that tells.
-- They are lawful throughout for each cache of which none of that lies at or below the root or on the way to it.
pub record TakesAsked (answer : CodeAnswers) (input : SourceView) (old new : FolderView) : Type 0 where
  pub asked : MovesAsked input old new
  pub lawful : (root : PathView) → AreOutside root (all_effects asked.readings) → LawfulThroughout root answer old.token (state old) (moved old new)

-- ---- endings

-- how the run ends, by the tracker's answer; memory may want for a text
abbrev pub EndsTracked : Tracked → Ended → Type 0
EndsTracked tracked.Ended e = e ≡ Done
EndsTracked tracked.ReadFault e = e ≡ ReadFault
EndsTracked (tracked.TooMuch line) e = (e ≡ Refused (refuses_input line).text) ⊎ (e ≡ NoMemory)
EndsTracked tracked.NoMemory e = e ≡ NoMemory

-- the tracker followed the lines of the input, and the run ends so
pub record FollowsLines (input input' : SourceView) (folder folder' : FolderView) (err err' : SinkView) (e : Ended) : Type 0 where
  pub tracked : Tracked
  pub tracks : Tracks input input' (stage folder err) (stage folder' err') tracked
  pub moves : folder.told → MovesAsked input folder folder'
  pub ends : EndsTracked tracked e

-- The tracker followed the lines of the input; where it was done the error stream stood there.
-- The status is that of its answer, and behind what was written by then stands the text of that.
pub record RunsTracker (w : Course) (err err' : SinkView) (n : ℕ) : Type 0 where
  pub ended : Ended
  pub point : SinkPoint
  pub follows : FollowsLines w.input w.input' w.folder w.folder' err (sink_at err point) ended
  pub later : point.faults ≤ err'.faults
  pub status : n ≡ status_of ended
  pub text : IsClear (sink_at err point) err' → err'.written ≡ point.written ++ last_text ended
