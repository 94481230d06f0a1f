use Rattle.std.proofs.Common.{sym, subst}
use Rattle.jl_folder.specs.State.{IsTrace}
use Rattle.jl_folder.specs.Views.{state, moved}
use Rattle.jl_rely.proofs.Since.{since_went}
use Rattle.jl_rely.proofs.Composed.{went_waits}
use Rattle.jl_store.proofs.FindLemmas.{finds_final}
use Rattle.jl_store.proofs.reading.read_final.Goals as goal

pub returns-clause-finds : goal.returns-clause-finds
returns-clause-finds g c = λ t root x final.
    let old = g.F.Folder.view c.args.folder.now in
    let new = g.F.Folder.view c.read_file.new.folder in
    let waits = c.read_file.ensures.waits t in
    let may : IsTrace (state old) (moved old new) = subst (IsTrace (state old)) (sym (since_went old new waits.others (went_waits old new waits))) waits.lawful in
    finds_final root x _ final (state old) (moved old new) may c.read_file.result (c.read_file.ensures.reads t)
