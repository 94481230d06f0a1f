use Rattle.std.proofs.Common.{◌++◌, ◌∷◌, [], subst}
use Rattle.jl_text.specs.Paths.{PathView}
use Rattle.jl_entry.specs.Names.{entry_part}
use Rattle.jl_entry.specs.declared.names.EntryFile.TheVariants.{Access}
use Rattle.jl_evict.specs.declared.measure.Measure.TheVariants.{NoMemory}
use Rattle.jl_evict.specs.Items.{HadAccess}
use Rattle.jl_evict.specs.Walks.{Measures}
use Rattle.jl_evict.proofs.MeasureLemmas.{measures_none}
use Rattle.jl_evict.proofs.measure.entry_access.Goals as goal

pub returns-in-Ok : goal.returns-in-Ok
unfolding entry_part
returns-in-Ok g c =
    let v = g.F.Folder.view in
    subst (λ (p : PathView). Measures (HadAccess p) c.read_moment.result (v c.args.folder.now) (v c.read_moment.new.folder)) c.in-Ok.ensures c.read_moment.ensures

pub returns-in-Err : goal.returns-in-Err
returns-in-Err g c = measures_none (HadAccess (c.args.entry.now ++ entry_part Access ∷ [])) NoMemory (g.F.Folder.view c.args.folder.now) (λ f. cc) (λ n e. cc)
