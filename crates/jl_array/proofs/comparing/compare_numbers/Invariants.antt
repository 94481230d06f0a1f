use Rattle.std.proofs.Common.{◌≤◌, ◌-◌, length, take}
use Rattle.jl_folder.specs.Views.{FolderAnswers}
use Rattle.jl_folder.specs.Calls.{Waits}
use Rattle.jl_array.specs.Dumps.{numbers_bytes, AreSigned, HasPart}
use Rattle.jl_array.specs.Nodes.{OpenHas}
use Rattle.jl_array.proofs.comparing.compare_numbers.Given as goal

-- so far the file has these numbers
abbrev pub invariant-loop-have : goal.invariant-loop-have
invariant-loop-have g l =
    let old = g.F.Folder.view l.initial.folder in
    let new = g.F.Folder.view l.folder in
    record {
      frame : FolderAnswers (⊥) old new;
      waits : old.told → Waits old new;
      within : l.have ≤ length l.numbers;
      signed : AreSigned (take l.have l.numbers);
      so_far : old.told
          → OpenHas l.number.0 (HasPart 15 (numbers_bytes (take l.have l.numbers))) new;
    }

-- the numbers that are left
abbrev pub decreases-loop-have : goal.decreases-loop-have
decreases-loop-have g l = length l.numbers - l.have
