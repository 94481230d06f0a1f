use Rattle.std.proofs.Common.{◌++◌, ◌∷◌, [], subst}
use Rattle.jl_text.specs.Paths.{PathView}
use Rattle.jl_evict.specs.declared.measure.Measure.TheVariants.{NoMemory}
use Rattle.jl_evict.specs.Walks.{Measures, HadSize}
use Rattle.jl_evict.proofs.MeasureLemmas.{measures_none}
use Rattle.jl_evict.proofs.measure.name_size.Goals as goal

pub returns-in-Ok : goal.returns-in-Ok
returns-in-Ok g c =
    let v = g.F.Folder.view in
    subst (λ (p : PathView). Measures (HadSize p) c.file_size.result (v c.args.folder.now) (v c.file_size.new.folder)) c.in-Ok.ensures c.file_size.ensures

pub returns-in-Err : goal.returns-in-Err
returns-in-Err g c = measures_none (HadSize (c.args.entry.now ++ c.args.part.now ∷ [])) NoMemory (g.F.Folder.view c.args.folder.now) (λ f. cc) (λ n e. cc)
