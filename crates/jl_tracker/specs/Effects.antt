-- What the tracker does for the lines that it is sent, one effect after the other.
use Rattle.std.specs.Prelude.{ℕ, ◌+◌, ◌<◌, ◌≤◌, ◌⊎◌, List, [], ◌∷◌, ◌++◌, Bool, true, false, Option, Some, None, codes, length}
use Rattle.std.specs.Fmt.{decimal}
use Rattle.jl_text.specs.declared.limits.TheConstants.{MOST_LINE_BYTES}
use Rattle.jl_lines.specs.Lines.{body_of}
use Rattle.jl_tracker.specs.declared.line.Kind.{Kind}
use Rattle.jl_tracker.specs.declared.line.Kind.TheVariants as kind
use Rattle.jl_tracker.specs.declared.table.Step.{Step}
use Rattle.jl_tracker.specs.declared.table.Step.TheVariants as step
use Rattle.jl_tracker.specs.declared.counts.Leaked.{Leaked}
use Rattle.jl_tracker.specs.TrackerLines.{LineView, registers, unregisters, may_unlink, probes, word_of, IsTrackerLine}
use Rattle.jl_tracker.specs.Counting.{CountsView, counts_answer, after_line, left_of}

-- a report, or the removal of a resource
pub data Effect : Type 0 where
  reports_bad : (number : ℕ) → Effect
  reports_unknown : (k : Kind) (name : List ℕ) → Effect
  reports_leaked : (k : Kind) (name : List ℕ) → Effect
  removes : (k : Kind) (name : List ℕ) → Effect

-- one fewer of a resource that isn't counted is reported, and the last one removes it
abbrev pub step_effects : Kind → List ℕ → Step → List Effect
step_effects k name (step.Counted n) = []
step_effects k name step.Dropped = []
step_effects k name step.Remove = removes k name ∷ []
step_effects k name step.Unknown = reports_unknown k name ∷ []
step_effects k name step.Nothing = []
step_effects k name step.NoMemory = []

-- the effects of a line, by what it does to the counts
abbrev pub effects_of : LineView → Step → List Effect
effects_of (registers k name) s = []
effects_of (unregisters k name) s = step_effects k name s
effects_of (may_unlink k name) s = step_effects k name s
effects_of probes s = []

-- the effects of a line that was read, or of a bad one, by its number and the counts before it
abbrev pub line_effects : ℕ → Option LineView → CountsView → List Effect
line_effects number None v = reports_bad number ∷ []
line_effects number (Some said) v = effects_of said (counts_answer said v)

-- the counts after it
abbrev pub after_read : Option LineView → CountsView → CountsView
after_read None v = v
after_read (Some said) v = after_line said v

-- the effects of lines, of which the first has this number
abbrev pub effects_from : ℕ → CountsView → List (Option LineView) → List Effect
effects_from number v [] = []
effects_from number v (r ∷ rs) = line_effects number r v ++ effects_from (number + 1) (after_read r v) rs

-- the counts after lines
abbrev pub counts_after : CountsView → List (Option LineView) → CountsView
counts_after v [] = v
counts_after v (r ∷ rs) = counts_after (after_read r v) rs

-- what is left is reported and removed
abbrev pub left_effects : List Leaked → List Effect
left_effects [] = []
left_effects (l ∷ ls) = reports_leaked l.kind l.name ∷ (removes l.kind l.name ∷ left_effects ls)

-- the effects at the end of input
abbrev pub end_effects : CountsView → List Effect
end_effects v = left_effects (left_of v)

-- the bytes of a line, without its newline, are read so
abbrev pub IsReading : List ℕ → Option LineView → Type 0
IsReading bytes (Some said) = IsTrackerLine bytes said
IsReading bytes None = (said : LineView) → ¬ (IsTrackerLine bytes said)

-- a line that is not too long, with its newline, is read so; a longer one is bad
abbrev pub IsLineReading : List ℕ → Option LineView → Type 0
IsLineReading line (Some said) = (length line ≤ MOST_LINE_BYTES) × IsTrackerLine (body_of line) said
IsLineReading line None = (MOST_LINE_BYTES < length line) ⊎ ((said : LineView) → ¬ (IsTrackerLine (body_of line) said))

-- each line is read so
abbrev pub AreReadings : List (List ℕ) → List (Option LineView) → Type 0
AreReadings [] [] = Unit {0}
AreReadings [] (r ∷ rs) = ⊥
AreReadings (l ∷ ls) [] = ⊥
AreReadings (l ∷ ls) (r ∷ rs) = IsLineReading l r × AreReadings ls rs

-- a text about a resource
abbrev pub about : List ℕ → Kind → List ℕ → List ℕ
about what k name = codes "tracker: " ++ (what ++ (codes " " ++ (word_of k ++ (codes " " ++ (name ++ codes "\n")))))

-- the text about a bad line
abbrev pub bad_text : ℕ → List ℕ
bad_text number = codes "tracker: bad line " ++ (decimal number ++ codes "\n")

-- the text of a removal, which was done or not
abbrev pub removal_text : Kind → List ℕ → Bool → List ℕ
removal_text kind.File name true = []
removal_text kind.File name false = about (codes "cannot remove") kind.File name
removal_text kind.Folder name true = []
removal_text kind.Folder name false = about (codes "cannot remove") kind.Folder name
removal_text kind.Semlock name done = about (codes "not removed") kind.Semlock name

-- the text of an effect
abbrev pub text_of : Effect → Bool → List ℕ
text_of (reports_bad number) done = bad_text number
text_of (reports_unknown k name) done = about (codes "unknown") k name
text_of (reports_leaked k name) done = about (codes "leaked") k name
text_of (removes k name) done = removal_text k name done
