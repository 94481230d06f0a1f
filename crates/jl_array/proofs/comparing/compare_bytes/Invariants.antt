use Rattle.std.proofs.Common.{◌≡◌, ◌≤◌, ◌-◌, ◌++◌, ℕ, List, length, take}
use Rattle.jl_folder.specs.Views.{FolderAnswers}
use Rattle.jl_folder.specs.Calls.{Waits}
use Rattle.jl_array.specs.Dumps.{HasPart}
use Rattle.jl_array.specs.Nodes.{OpenHas}
use Rattle.jl_array.proofs.comparing.compare_bytes.Given as goal

-- so far the file has what is wanted
abbrev pub invariant-loop-have : goal.invariant-loop-have
invariant-loop-have g l =
    let old = g.F.Folder.view l.initial.folder in
    let new = g.F.Folder.view l.folder in
    record {
      frame : FolderAnswers (⊥) old new;
      waits : old.told → Waits old new;
      room : length l.buf ≡ length l.wanted;
      within : l.have ≤ length l.wanted;
      so_far : old.told → (before : List ℕ) → length before ≡ l.done
          → OpenHas l.number.0 (HasPart 15 before) old
          → OpenHas l.number.0 (HasPart 15 (before ++ take l.have l.wanted)) new;
    }

-- the bytes that are left
abbrev pub decreases-loop-have : goal.decreases-loop-have
decreases-loop-have g l = length l.wanted - l.have
