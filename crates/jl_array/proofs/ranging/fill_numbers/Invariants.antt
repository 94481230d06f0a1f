use Rattle.std.proofs.Common.{◌≤◌, ◌-◌, length, take}
use Rattle.jl_folder.specs.Views.{FolderAnswers}
use Rattle.jl_folder.specs.Calls.{Waits}
use Rattle.jl_array.specs.Dumps.{numbers_bytes, AreSigned, HasPart}
use Rattle.jl_array.specs.Nodes.{OpenHas}
use Rattle.jl_array.proofs.ranging.fill_numbers.Given as goal

-- the first numbers are those that stand in the file from the place on
abbrev pub invariant-loop-have : goal.invariant-loop-have
invariant-loop-have g l =
    let old = g.F.Folder.view l.initial.folder in
    let new = g.F.Folder.view l.folder in
    record {
      frame : FolderAnswers (⊥) old new;
      waits : old.told → Waits old new;
      within : l.have ≤ length l.out;
      signed : AreSigned (take l.have l.out);
      so_far : old.told → OpenHas l.number.0 (HasPart l.at (numbers_bytes (take l.have l.out))) new;
    }

-- the room that is left
abbrev pub decreases-loop-have : goal.decreases-loop-have
decreases-loop-have g l = length l.out - l.have
