use Rattle.std.proofs.Common.{sym, subst}
use Rattle.jl_evict.specs.declared.measure.Measure.{Measure}
use Rattle.jl_evict.specs.Walks.{Measures, HadSize}
use Rattle.jl_evict.proofs.MeasureLemmas.{measures_size}
use Rattle.jl_evict.proofs.measure.file_size.Goals as goal

pub returns : goal.returns
returns g c =
    let e = c.size-size.ensures in
    let v = g.F.Folder.view in
    subst (λ (m : Measure). Measures (HadSize c.args.path.now) m (v c.args.folder.now) (v c.size-size.new.self)) (sym c.as_measure.ensures)
    (measures_size c.args.path.now c.size-size.result (v c.args.folder.now) (v c.size-size.new.self) e.frame e.call)
