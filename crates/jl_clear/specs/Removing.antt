-- What taking away one name answers.
use Rattle.std.specs.Prelude.{Result, Ok, Err, ⊤}
use Rattle.jl_folder.specs.declared.folder.Removed.{Removed}
use Rattle.jl_folder.specs.declared.folder.Removed.TheVariants as removed
use Rattle.jl_folder.specs.declared.folder.RemovedDir.{RemovedDir}
use Rattle.jl_folder.specs.declared.folder.RemovedDir.TheVariants as removed_dir
use Rattle.jl_clear.specs.declared.removing.Clear.{Clear}
use Rattle.jl_clear.specs.declared.removing.Clear.TheVariants as clear
use Rattle.jl_clear.specs.declared.stop.Stop.{Stop}
use Rattle.jl_clear.specs.declared.stop.Stop.TheVariants as stop

-- a clearing that ended has cleared, and one that stopped tells why
abbrev pub answer_of : Result ⊤ Stop → Clear
answer_of (Ok done) = clear.Cleared
answer_of (Err stop.Fault) = clear.Fault
answer_of (Err stop.NoMemory) = clear.NoMemory

-- a file that is gone is cleared
abbrev pub clear_of : Removed → Clear
clear_of removed.Done = clear.Cleared
clear_of removed.NoFile = clear.Cleared
clear_of removed.Failed = clear.Fault
clear_of removed.NoMemory = clear.NoMemory

-- so is a folder, and one in which something else stands stays
abbrev pub clear_of_folder : RemovedDir → Clear
clear_of_folder removed_dir.Done = clear.Cleared
clear_of_folder removed_dir.NoDir = clear.Cleared
clear_of_folder removed_dir.NotEmpty = clear.Cleared
clear_of_folder removed_dir.Failed = clear.Fault
clear_of_folder removed_dir.NoMemory = clear.NoMemory
