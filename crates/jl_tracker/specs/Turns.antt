-- One line of the tracker after another.
use Rattle.std.specs.Prelude.{◌≡◌, ℕ, List, [], ◌∷◌, Option}
use Rattle.jl_lines.specs.declared.reader.NextLine.{NextLine}
use Rattle.jl_lines.specs.declared.reader.NextLine.TheVariants as next_line
use Rattle.jl_tracker.specs.declared.line.Kind.{Kind}
use Rattle.jl_tracker.specs.declared.line.Kind.TheVariants as kind
use Rattle.jl_tracker.specs.declared.counts.Leaked.{Leaked}
use Rattle.jl_tracker.specs.declared.following.Tracked.{Tracked}
use Rattle.jl_tracker.specs.declared.following.Tracked.TheVariants as tracked
use Rattle.jl_tracker.specs.TrackerLines.{LineView, registers, unregisters, may_unlink, probes}
use Rattle.jl_tracker.specs.Entries.{Entries}
use Rattle.jl_tracker.specs.Counting.{CountsView}
use Rattle.jl_tracker.specs.Effects.{IsReading, after_read, line_effects, reports_bad, end_effects}
use Rattle.jl_tracker.specs.Stages.{Stage, stage_point}
use Rattle.jl_tracker.specs.Plays.{Plays, Stops}
use Rattle.jl_tracker.specs.Tries.{IsRemovable}

-- the resource of a line, if it is a file or a folder, has a path
abbrev pub IsSaidRemovable : LineView → Type 0
IsSaidRemovable (registers k name) = IsRemovable k name
IsSaidRemovable (unregisters k name) = IsRemovable k name
IsSaidRemovable (may_unlink k name) = IsRemovable k name
IsSaidRemovable probes = Unit {0}

-- a line was read, counted and brought about
pub record LinePlays (number : ℕ) (bytes : List ℕ) (old new : CountsView) (before after : Stage) : Type 0 where
  pub read : Option LineView
  pub reading : IsReading bytes read
  pub counts_is : new ≡ after_read read old
  pub plays : Plays (line_effects number read old) before after

-- a line was read, and then there was no memory
pub record LineStops (number : ℕ) (bytes : List ℕ) (old : CountsView) (before after : Stage) : Type 0 where
  pub read : Option LineView
  pub reading : IsReading bytes read
  pub stops : Stops (line_effects number read old) before after

-- each file and folder has a path
abbrev pub Held : Kind → Entries → Type 0
Held k [] = Unit {0}
Held k (e ∷ es) = IsRemovable k e.0 × Held k es

-- the same of all that is counted
pub record HasPaths (v : CountsView) : Type 0 where
  pub files : Held kind.File v.files
  pub semlocks : Held kind.Semlock v.semlocks
  pub folders : Held kind.Folder v.folders

-- the same of what is left
abbrev pub AreRemovable : List Leaked → Type 0
AreRemovable [] = Unit {0}
AreRemovable (l ∷ ls) = IsRemovable l.kind l.name × AreRemovable ls

-- what follows on an answer of the reader, if the tracker goes on
abbrev pub Handles : NextLine → CountsView → CountsView → Stage → Stage → Type 0
Handles (next_line.Line number body) old new before after = LinePlays number body old new before after
Handles (next_line.TooLong number) old new before after = (new ≡ old) × Plays (reports_bad number ∷ []) before after
Handles next_line.End old new before after = ⊥
Handles next_line.TooMuch old new before after = ⊥
Handles next_line.ReadFault old new before after = ⊥
Handles next_line.NoMemory old new before after = ⊥

-- there was no memory for what follows on an answer
abbrev pub HandlesSome : NextLine → CountsView → Stage → Stage → Type 0
HandlesSome (next_line.Line number body) old before after = LineStops number body old before after
HandlesSome (next_line.TooLong number) old before after = Stops (reports_bad number ∷ []) before after
HandlesSome next_line.End old before after = Stops (end_effects old) before after
HandlesSome next_line.TooMuch old before after = ⊥
HandlesSome next_line.ReadFault old before after = ⊥
HandlesSome next_line.NoMemory old before after = stage_point after ≡ stage_point before

-- what follows on an answer, if the tracker ends; the number is that of the line that is read next
abbrev pub Concludes : Tracked → ℕ → NextLine → CountsView → Stage → Stage → Type 0
Concludes tracked.Ended number answer old before after = (answer ≡ next_line.End) × Plays (end_effects old) before after
Concludes tracked.ReadFault number answer old before after = (answer ≡ next_line.ReadFault) × (stage_point after ≡ stage_point before)
Concludes (tracked.TooMuch line) number answer old before after = (answer ≡ next_line.TooMuch) × (stage_point after ≡ stage_point before) × (line ≡ number)
Concludes tracked.NoMemory number answer old before after = HandlesSome answer old before after
