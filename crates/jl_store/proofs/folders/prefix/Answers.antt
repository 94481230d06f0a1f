use Rattle.std.proofs.Common.{length, ap, arith}
use Rattle.jl_entry.proofs.TempFacts.{addable}
use Rattle.jl_store.proofs.folders.prefix.Goals as goal

pub add_part-requires : goal.add_part-requires
add_part-requires c =
    addable c.loop-i.folder c.args.path.now c.as_str.result.now c.loop-i.i c.parts-parts.ensures.path (omega (arith, ap length c.parts-parts.ensures.same)) (cc) (cc)
