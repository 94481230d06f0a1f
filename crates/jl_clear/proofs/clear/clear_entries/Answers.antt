use Rattle.std.proofs.Common.{sym, subst}
use Rattle.jl_rely.specs.Claims.{Anywhere}
use Rattle.jl_clear.specs.declared.removing.Clear.{Clear}
use Rattle.jl_clear.specs.Clearing.{Clears, IsOfEntries}
use Rattle.jl_clear.proofs.clear.clear_entries.Goals as goal

pub returns : goal.returns
returns g c = λ root of.
    let v = g.F.Folder.view in
    let Of = IsOfEntries c.args.function.now in
    subst (λ (a : Clear). Clears root Anywhere Of Of Of a (v c.args.folder.now) (v c.clear_folders.new.folder)) (sym c.as_clear.ensures)
    (c.clear_folders.ensures root of)
