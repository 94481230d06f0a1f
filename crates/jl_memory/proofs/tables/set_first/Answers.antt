use Rattle.std.proofs.Common.{◌<◌, length, arith, sym, ◌∙◌, ap}
use Rattle.jl_text.specs.Paths.{path_eq}
use Rattle.jl_memory.specs.Tables.{with_place}
use Rattle.jl_memory.proofs.TableLemmas.{with_first-hit}
use Rattle.jl_memory.proofs.tables.set_first.Goals as goal

pub returns-then-eq-clause-set : goal.returns-then-eq-clause-set
returns-then-eq-clause-set c = λ _.
    let lt : c.loop-i.i < length c.loop-i.places.items = omega (arith, ap length c.loop-i.invariant.same, c.len-i-end.ensures, c.loop-i.places.ok.0, c.args.places.now.ok.0) in
    with_first-hit (λ e. path_eq e.0 c.args.path.now) (λ e. (e.0, c.args.what)) _ c.loop-i.places.items c.loop-i.i c.index.result.now c.index_mut.result.now lt c.index.ensures c.index_mut.ensures.value (sym c.eq.ensures ∙ c.if-eq.true) c.loop-i.invariant.passed
    ∙ ap (λ es. with_place es c.args.path.now c.args.what) c.loop-i.invariant.same
