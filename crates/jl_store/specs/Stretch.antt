-- What is seen at one moment of a run, and the moments between two such.
use Rattle.std.specs.Prelude.{ℕ, List}
use Rattle.jl_folder.specs.State.{History, Opens}
use Rattle.jl_folder.specs.Views.{FolderView}
use Rattle.jl_streams.specs.Views.{HostView}
use Rattle.jl_store.specs.declared.memory.Warning.{Warning}

-- at one moment: the folder, the host, the library's count of calls, and the warnings until then
pub record Point : Type 1 where
  pub folder : FolderView
  pub host : HostView
  pub calls : ℕ
  pub warnings : List Warning

abbrev pub point : FolderView → HostView → (calls : ℕ) → List Warning → Point
point folder host calls ws = record { folder = folder; host = host; calls = calls; warnings = ws }

-- the same but for whether the folder and the host tell: they do after a call if they did before it
pub record Between : Type 0 where
  pub token : List ℕ
  pub history : History
  pub opens : Opens
  pub faults : ℕ
  pub host_token : List ℕ
  pub processors : ℕ
  pub moments : List ℕ
  pub calls : ℕ
  pub warnings : List Warning

abbrev pub between : Point → Between
between p = record {
  token = p.folder.token;
  history = p.folder.history;
  opens = p.folder.opens;
  faults = p.folder.faults;
  host_token = p.host.token;
  processors = p.host.processors;
  moments = p.host.moments;
  calls = p.calls;
  warnings = p.warnings;
}

-- a folder that is seen so, and tells if this is so
abbrev pub folder_at : (told : Type 0) → Between → FolderView
folder_at told b = record { told = told; token = b.token; history = b.history; opens = b.opens; faults = b.faults }

-- a host
abbrev pub host_at : (told : Type 0) → Between → HostView
host_at told b = record { told = told; token = b.host_token; processors = b.processors; moments = b.moments }

-- the point that was reached from this one: who told there tells here
abbrev pub reached : Point → Between → Point
reached p b = point (folder_at p.folder.told b) (host_at p.host.told b) b.calls b.warnings
