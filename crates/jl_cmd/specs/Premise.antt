-- What a run rests on, by what its command needs: what it sees, its cache folder, and what others do with that.
use Rattle.std.specs.Prelude.{◌≢◌, ℕ, List, Option, Some, None, Bool, true, false, ⊤}
use Rattle.jl_text.specs.Paths.{PathView}
use Rattle.jl_folder.specs.Views.{state, moved}
use Rattle.jl_rely.specs.Steps.{Throughout}
use Rattle.jl_entry.specs.Names.{root_of}
use Rattle.jl_protocol.specs.Tidy.{IsSound}
use Rattle.jl_protocol.specs.Proper.{IsLawful}
use Rattle.jl_cmd.specs.Course.{Course}
use Rattle.jl_cmd.specs.Needs.{Needs}

-- the folder tells, where a module's file is read in it
abbrev pub TellsFile : Option PathView → Course → Type 0
TellsFile None w = ⊤
TellsFile (Some file) w = w.folder.told

-- the input tells, where it is read
abbrev pub Heard : Bool → Course → Type 0
Heard false w = ⊤
Heard true w = w.input.told

-- the cache folder, where values rest on one, was sound
abbrev pub SoundCache : Option PathView → Course → Type 0
SoundCache None w = ⊤
SoundCache (Some location) w = IsSound (root_of location) w.means.answer (state w.folder)

-- and each other run is lawful throughout
abbrev pub OthersKeep : Option PathView → Course → Type 0
OthersKeep None w = ⊤
OthersKeep (Some location) w =
    (other : List ℕ) → other ≢ w.folder.token
    → Throughout (IsLawful (root_of location) w.means.answer) (IsLawful (root_of location) w.means.answer) other (state w.folder) (moved w.folder w.folder')

-- what refusals and errors rest on: the folder and the input tell what is read in them
pub record Stated (n : Needs) (w : Course) : Type 0 where
  pub told : TellsFile n.file w
  pub input : Heard n.reads w

-- what values rest on: the folder and the input tell what is read in them; the cache folder was sound, and each other run's moves were lawful
-- wherever all moves before them were
pub record Premise (n : Needs) (w : Course) : Type 0 where
  pub told : TellsFile n.file w
  pub input : Heard n.reads w
  pub sound : SoundCache n.cache w
  pub others : OthersKeep n.cache w
