use Rattle.std.proofs.Common.{sym, subst, arith}
use Rattle.jl_entry.specs.Codes.{IsSameCode}
use Rattle.jl_entry.proofs.CodeFacts.{same_written}
use Rattle.jl_protocol.specs.Whole.{IsWhole}
use Rattle.jl_protocol.proofs.laws.whole_codes_are_read.Goals as goal

pub returns : goal.returns
unfolding IsWhole
returns c m f bytes whole =
    let of = whole.1 in
    (of.0, subst (IsSameCode of.0) (sym of.5) (same_written of.0 of.1 (omega (arith, of.3))))
