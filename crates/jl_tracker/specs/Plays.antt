-- How effects come about in a folder and on the error stream, beside others' moves.
use Rattle.std.specs.Prelude.{◌≡◌, ℕ, ◌≤◌, ◌⊎◌, List, [], ◌∷◌, ◌++◌, Bool, false, Result, Ok, Err}
use Rattle.jl_text.specs.Counts.{Rose}
use Rattle.jl_streams.specs.Streams.{WritesPrefix}
use Rattle.jl_tracker.specs.Stages.{Stage, FolderPoint, SinkPoint, StagePoint, stage_point}
use Rattle.jl_tracker.specs.Removing.{Removal, CutRemoval}
use Rattle.jl_tracker.specs.Effects.{Effect, reports_bad, reports_unknown, reports_leaked, removes, text_of}

-- the text was written, or a prefix of it where a write failed
abbrev pub Wrote : List ℕ → SinkPoint → SinkPoint → Type 0
Wrote text old new = (old.faults ≤ new.faults) × (((new.written ≡ old.written ++ text) × (new.faults ≡ old.faults)) ⊎ (WritesPrefix text old.written new.written × Rose old.faults new.faults))

-- an effect's moves: those of one removal, or none
abbrev pub EffectMoves : Effect → Bool → FolderPoint → FolderPoint → Type 0
EffectMoves (reports_bad number) done old new = new ≡ old
EffectMoves (reports_unknown k name) done old new = new ≡ old
EffectMoves (reports_leaked k name) done old new = new ≡ old
EffectMoves (removes k name) done old new = Removal k name done old new

-- the effect comes about between two points of a stage: its moves where the folder tells, and its text where the stream tells
pub record ComesAbout (s : Stage) (e : Effect) (done : Bool) (a b : StagePoint) : Type 0 where
  pub moves : s.folder.told → EffectMoves e done a.folder b.folder
  pub text : s.err.told → Wrote (text_of e done) a.err b.err

-- the effects come about between two points of a stage, one after the other
abbrev pub PlaysAt : Stage → List Effect → StagePoint → StagePoint → Type 0
PlaysAt s [] a b = b ≡ a
PlaysAt s (e ∷ es) a b = (done : Bool) × (mid : StagePoint) × ComesAbout s e done a mid × PlaysAt s es mid b

-- the effects come about
abbrev pub Plays : List Effect → Stage → Stage → Type 0
Plays es old new = PlaysAt old es (stage_point old) (stage_point new)

-- what want of memory leaves of an effect: nothing, or a part of the moves of a removal, or all of those of one that can't be done; no text is written
abbrev pub EffectCut : Effect → FolderPoint → FolderPoint → Type 0
EffectCut (reports_bad number) old new = new ≡ old
EffectCut (reports_unknown k name) old new = new ≡ old
EffectCut (reports_leaked k name) old new = new ≡ old
EffectCut (removes k name) old new = CutRemoval k name old new ⊎ Removal k name false old new

pub record Cut (s : Stage) (e : Effect) (a b : StagePoint) : Type 0 where
  pub moves : s.folder.told → EffectCut e a.folder b.folder
  pub err_is : b.err ≡ a.err

-- want of memory came before the first of these effects, or within it
abbrev pub CutFirst : Stage → List Effect → StagePoint → StagePoint → Type 0
CutFirst s [] a b = b ≡ a
CutFirst s (e ∷ es) a b = (b ≡ a) ⊎ Cut s e a b

-- the first of the effects came about between two points of a stage, and then there was no memory
pub record StopsAt (s : Stage) (es : List Effect) (a b : StagePoint) : Type 0 where
  pub first : List Effect
  pub rest : List Effect
  pub split : es ≡ first ++ rest
  pub mid : StagePoint
  pub plays : PlaysAt s first a mid
  pub cut : CutFirst s rest mid b

-- the first of the effects came about, and then there was no memory
abbrev pub Stops : List Effect → Stage → Stage → Type 0
Stops es old new = StopsAt old es (stage_point old) (stage_point new)

-- all of the effects came about, or there was no memory
abbrev pub PlaysOrStops : {A E : Type 0} → Result A E → List Effect → Stage → Stage → Type 0
PlaysOrStops (Ok done) es old new = Plays es old new
PlaysOrStops (Err e) es old new = Stops es old new
