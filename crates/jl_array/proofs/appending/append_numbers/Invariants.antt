use Rattle.std.proofs.Common.{length, take, ◌-◌, ◌≤◌}
use Rattle.jl_folder.specs.Views.{FolderAnswers}
use Rattle.jl_array.specs.Dumps.{numbers_bytes}
use Rattle.jl_array.specs.Dumping.{Holding}
use Rattle.jl_array.proofs.AppendLemmas.{IsAdded}
use Rattle.jl_array.proofs.appending.append_numbers.Given as goal

-- the numbers so far were appended
abbrev pub invariant-loop-have : goal.invariant-loop-have
invariant-loop-have g l =
    let old = g.F.Folder.view l.fn.folder in
    let new = g.F.Folder.view l.folder in
    record {
      frame : FolderAnswers (⊥) old new;
      within : l.have ≤ length l.numbers;
      added : IsAdded old new l.number.0 (numbers_bytes (take l.have l.numbers));
      held : Holding old new l.number.0;
    }

-- the numbers that are left
abbrev pub decreases-loop-have : goal.decreases-loop-have
decreases-loop-have g l = length l.numbers - l.have
