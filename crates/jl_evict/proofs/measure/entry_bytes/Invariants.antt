use Rattle.std.proofs.Common.{take}
use Rattle.jl_evict.specs.declared.measure.Measure.TheVariants as measure
use Rattle.jl_evict.specs.Items.{HadBytes}
use Rattle.jl_evict.specs.Walks.{Measures}
use Rattle.jl_evict.proofs.measure.entry_bytes.Given as goal

abbrev pub invariant-loop-name : goal.invariant-loop-name
invariant-loop-name g l = Measures (HadBytes l.entry (take l.name-index l.names)) (measure.Number l.sum) (g.F.Folder.view l.fn.folder) (g.F.Folder.view l.folder)
