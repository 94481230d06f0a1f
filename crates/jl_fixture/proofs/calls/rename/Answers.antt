use Rattle.std.proofs.Common.{sym, ◌∙◌, true≢false}
use Rattle.jl_folder.proofs.PathLemmas.{path_eq-Decides}
use Rattle.jl_fixture.proofs.calls.rename.Goals as goal

pub rename-requires : goal.rename-requires
rename-requires g c = λ is. true≢false (sym ((path_eq-Decides c.args.from.now c.args.to.now).1 is) ∙ sym c.eq.ensures ∙ c.if-eq.false)
