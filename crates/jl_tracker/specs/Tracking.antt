-- What the tracker does from the first line to the last.
use Rattle.std.specs.Prelude.{◌≡◌, ℕ, ◌+◌, ◌≤◌, ◌⊎◌, List, [], ◌∷◌, ◌++◌, true, false, Option, length}
use Rattle.jl_text.specs.declared.limits.TheConstants.{MOST_LINE_BYTES, MOST_INPUT_BYTES}
use Rattle.jl_streams.specs.Views.{SourceView}
use Rattle.jl_lines.specs.Lines.{has_newline, lines_of}
use Rattle.jl_lines.specs.Steps.{ReaderView, waiting}
use Rattle.jl_tracker.specs.declared.following.Tracked.{Tracked}
use Rattle.jl_tracker.specs.declared.following.Tracked.TheVariants as tracked
use Rattle.jl_tracker.specs.TrackerLines.{LineView}
use Rattle.jl_tracker.specs.Counting.{CountsView, no_counts}
use Rattle.jl_tracker.specs.Effects.{AreReadings, effects_from, counts_after, end_effects}
use Rattle.jl_tracker.specs.Stages.{Stage}
use Rattle.jl_tracker.specs.Plays.{Plays, Stops}
use Rattle.jl_tracker.specs.Turns.{HasPaths}

-- the bytes end with a line: what comes behind begins a new one
abbrev pub EndsLines : List ℕ → Type 0
EndsLines input = (more : List ℕ) → lines_of (input ++ more) ≡ lines_of input ++ lines_of more

-- the lines are those of the first bytes that were left, each with its newline; `behind` stands behind them
pub record LinesSeen (lines : List (List ℕ)) (left behind : List ℕ) : Type 0 where
  pub input : List ℕ
  pub left_is : left ≡ input ++ behind
  pub lines_is : lines ≡ lines_of input
  pub ends : EndsLines input

-- the lines are all that were left, the last one with its newline or not, and nothing stands behind them
abbrev pub SeenAll : List (List ℕ) → List ℕ → List ℕ → Type 0
SeenAll lines left behind = (lines ≡ lines_of left) × (behind ≡ [])

-- all lines of the source were read, and their effects came about, and then those of the end; no more bytes were there than are taken at most
pub record TracksAll (source rest : SourceView) (old new : Stage) : Type 0 where
  pub lines : List (List ℕ)
  pub readings : List (Option LineView)
  pub read : AreReadings lines readings
  pub seen : source.told → SeenAll lines source.left rest.left
  pub few : source.told → length source.left ≤ MOST_INPUT_BYTES
  pub plays : Plays (effects_from 1 no_counts readings ++ end_effects (counts_after no_counts readings)) old new

-- the first lines of the source were read, all whose newline was taken and no other, and their effects came about;
-- `open_line` are the bytes that were taken behind them
pub record TracksFirst (source rest : SourceView) (old new : Stage) : Type 0 where
  pub lines : List (List ℕ)
  pub readings : List (Option LineView)
  pub open_line : List ℕ
  pub read : AreReadings lines readings
  pub none : has_newline open_line ≡ false
  pub seen : source.told → LinesSeen lines source.left (open_line ++ rest.left)
  pub plays : Plays (effects_from 1 no_counts readings) old new

-- the same; as many bytes were taken as are taken at most, and then one more; the number is that of the line behind those that were read
pub record TracksMuch (source rest : SourceView) (old new : Stage) (number : ℕ) : Type 0 where
  pub lines : List (List ℕ)
  pub readings : List (Option LineView)
  pub open_line : List ℕ
  pub read : AreReadings lines readings
  pub none : has_newline open_line ≡ false
  pub seen : source.told → (byte : ℕ) × LinesSeen lines source.left (open_line ++ byte ∷ rest.left)
  pub much : source.told → MOST_INPUT_BYTES + (1 + length rest.left) ≡ length source.left
  pub number_is : number ≡ 1 + length readings
  pub plays : Plays (effects_from 1 no_counts readings) old new

-- lines of the source were read; the first of their effects came about, with some of the end's only where these were all lines; and then there was no memory
pub record TracksSome (source rest : SourceView) (old new : Stage) : Type 0 where
  pub lines : List (List ℕ)
  pub readings : List (Option LineView)
  pub open_line : List ℕ
  pub read : AreReadings lines readings
  pub seen : source.told → LinesSeen lines source.left (open_line ++ rest.left) ⊎ SeenAll lines source.left (open_line ++ rest.left)
  pub stops : Stops (effects_from 1 no_counts readings) old new ⊎ ((source.told → SeenAll lines source.left rest.left) × Stops (effects_from 1 no_counts readings ++ end_effects (counts_after no_counts readings)) old new)

-- what stands after each answer
abbrev pub Tracks : SourceView → SourceView → Stage → Stage → Tracked → Type 0
Tracks source rest old new tracked.Ended = TracksAll source rest old new
Tracks source rest old new tracked.ReadFault = TracksFirst source rest old new
Tracks source rest old new (tracked.TooMuch line) = TracksMuch source rest old new line
Tracks source rest old new tracked.NoMemory = TracksSome source rest old new

-- the tracker goes on: the lines that it passed were read, counted and brought about; `behind` are the bytes that
-- stand behind them. Until the reader met the end each of these lines had its newline; then they are all lines.
pub record Going (source : SourceView) (behind : List ℕ) (old new : Stage) (reader : ReaderView) (counts : CountsView) : Type 0 where
  pub lines : List (List ℕ)
  pub readings : List (Option LineView)
  pub read : AreReadings lines readings
  pub seen : source.told → reader.ended ≡ false → LinesSeen lines source.left behind
  pub whole : source.told → reader.ended ≡ true → SeenAll lines source.left behind
  pub taken_is : source.told → reader.taken + length behind ≡ length source.left + length (waiting reader)
  pub number_is : reader.lines ≡ length readings
  pub short : reader.long ≡ false
  pub limit_is : reader.limit ≡ MOST_LINE_BYTES
  pub counts_is : counts ≡ counts_after no_counts readings
  pub paths : HasPaths counts
  pub plays : Plays (effects_from 1 no_counts readings) old new
