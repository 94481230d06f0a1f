use Rattle.std.proofs.Common.{arith}
use Rattle.jl_protocol.specs.Whole.{IsWhole}
use Rattle.jl_protocol.proofs.Fronts.{no_front}
use Rattle.jl_protocol.proofs.laws.fronts_of_codes_are_not_whole.Goals as goal

pub returns : goal.returns
unfolding IsWhole
returns c m f front rest some whole part =
    let all = whole.1 in
    let own = part.1 in
    some (no_front all.0 own.0 front rest all.1 own.1 (omega (arith, all.3)) (omega (arith, own.3)) all.4 own.4 all.5 own.5)
