use Rattle.std.proofs.Common.{take}
use Rattle.jl_rely.specs.Claims.{Anywhere}
use Rattle.jl_clear.specs.declared.removing.Clear.TheVariants.{Cleared}
use Rattle.jl_clear.specs.Clearing.{Clears}
use Rattle.jl_evict.specs.Reducing.{Chosen}
use Rattle.jl_evict.proofs.reducing.clear_chosen.Given as goal

abbrev pub invariant-loop-item : goal.invariant-loop-item
invariant-loop-item g l =
    Clears l.root Anywhere (Chosen l.root l.chosen) (Chosen l.root (take l.item-index l.chosen)) (Chosen l.root (take l.item-index l.chosen)) Cleared (g.F.Folder.view l.fn.folder) (g.F.Folder.view l.folder)
