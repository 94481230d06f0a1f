-- What contracts see of the folder and of the error stream together, and where both stand in between.
use Rattle.std.specs.Prelude.{ℕ, List, None, ⊤}
use Rattle.jl_folder.specs.State.{History}
use Rattle.jl_folder.specs.Views.{FolderView, FolderKeeps}
use Rattle.jl_streams.specs.Views.{SinkView, SinkKeeps}

-- the folder, and the error stream
pub record Stage : Type 1 where
  pub folder : FolderView
  pub err : SinkView

abbrev pub stage : FolderView → SinkView → Stage
stage folder err = record { folder = folder; err = err }

-- any number of calls of both
pub record StageKeeps (old new : Stage) : Type 0 where
  pub folder : FolderKeeps old.folder new.folder
  pub err : SinkKeeps old.err new.err

-- where a folder stands between calls: the token of the run, all moves until then, and how many calls had failed
pub record FolderPoint : Type 0 where
  pub token : List ℕ
  pub history : History
  pub faults : ℕ

abbrev pub folder_point : FolderView → FolderPoint
folder_point v = record { token = v.token; history = v.history; faults = v.faults }

-- a folder that stands there, with no number open
abbrev pub view_at : FolderPoint → FolderView
view_at p = record { told = ⊤; token = p.token; history = p.history; opens = λ number. None; faults = p.faults }

-- where a sink stands between calls: the bytes that were written, and how many calls had failed
pub record SinkPoint : Type 0 where
  pub written : List ℕ
  pub faults : ℕ

-- where both stand
pub record StagePoint : Type 0 where
  pub folder : FolderPoint
  pub err : SinkPoint

abbrev pub sink_point : SinkView → SinkPoint
sink_point v = record { written = v.written; faults = v.faults }

abbrev pub stage_point : Stage → StagePoint
stage_point s = record { folder = folder_point s.folder; err = sink_point s.err }
