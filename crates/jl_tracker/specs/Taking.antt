-- Which moves take away what the tracker's lines ask for.
use Rattle.std.specs.Prelude.{◌≡◌, ◌⊎◌, ℕ, List, [], ◌∷◌, ◌++◌, Option}
use Rattle.jl_text.specs.Paths.{path_of}
use Rattle.jl_folder.specs.declared.moves.Move.{Move}
use Rattle.jl_folder.specs.declared.moves.Move.TheVariants.{Remove, RemoveDir}
use Rattle.jl_folder.specs.Views.{FolderView}
use Rattle.jl_rely.specs.Claims.{Moves}
use Rattle.jl_streams.specs.Views.{SourceView}
use Rattle.jl_lines.specs.Lines.{lines_of}
use Rattle.jl_tracker.specs.declared.line.Kind.{Kind}
use Rattle.jl_tracker.specs.declared.line.Kind.TheVariants as kind
use Rattle.jl_tracker.specs.TrackerLines.{LineView}
use Rattle.jl_tracker.specs.Counting.{no_counts}
use Rattle.jl_tracker.specs.Effects.{Effect, reports_bad, reports_unknown, reports_leaked, removes, AreReadings, effects_from, counts_after, end_effects}

-- all effects of the lines that are read so, with those at the end of input
abbrev pub all_effects : List (Option LineView) → List Effect
all_effects readings = effects_from 1 no_counts readings ++ end_effects (counts_after no_counts readings)

-- the move takes away a file, or a folder or a file of it; never a semaphore
abbrev pub TakesResource : Kind → List ℕ → Move → Type 0
TakesResource kind.File name m = m ≡ Remove (path_of name)
TakesResource kind.Folder name m = ((part : List ℕ) × (m ≡ Remove (path_of name ++ part ∷ []))) ⊎ (m ≡ RemoveDir (path_of name))
TakesResource kind.Semlock name m = ⊥

-- the move is one of those by which an effect comes about
abbrev pub TakesFor : Effect → Move → Type 0
TakesFor (reports_bad number) m = ⊥
TakesFor (reports_unknown k name) m = ⊥
TakesFor (reports_leaked k name) m = ⊥
TakesFor (removes k name) m = TakesResource k name m

-- the same of one of these effects
abbrev pub TakesForSome : List Effect → Move → Type 0
TakesForSome [] m = ⊥
TakesForSome (e ∷ es) m = TakesFor e m ⊎ TakesForSome es m

-- lines were read, the first of the source where that tells, and all own moves take away what they ask for
pub record MovesAsked (source : SourceView) (old new : FolderView) : Type 0 where
  pub lines : List (List ℕ)
  pub readings : List (Option LineView)
  pub read : AreReadings lines readings
  pub first : source.told → (rest : List (List ℕ)) × (lines_of source.left ≡ lines ++ rest)
  pub moves : Moves (TakesForSome (all_effects readings)) old new
