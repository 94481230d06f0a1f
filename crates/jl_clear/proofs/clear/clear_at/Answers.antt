use Rattle.std.proofs.Common.{sym, subst}
use Rattle.jl_clear.specs.declared.removing.Clear.{Clear}
use Rattle.jl_clear.specs.Clearing.{ClearsBelow}
use Rattle.jl_clear.proofs.clear.clear_at.Goals as goal

pub returns : goal.returns
returns g c = λ root of.
    let v = g.F.Folder.view in
    subst (λ (a : Clear). ClearsBelow root c.args.path.now a (v c.args.folder.now) (v c.clear_level.new.folder)) (sym c.as_clear.ensures)
    (c.clear_level.ensures root of)
