use Rattle.std.proofs.Common.{pos, take, get_or, FitsSigned, arith, rules, sym, subst}
use Rattle.std.proofs.lemmas.List.{take_more}
use Rattle.std.proofs.lemmas.Int.{to_z-of_z}
use Rattle.std.specs.Int.{w64}
use Rattle.jl_array.specs.Dumps.{number_bytes, AreSigned}
use Rattle.jl_array.proofs.Numerals.{numbers_none, signed_none, signed_push}
use Rattle.jl_array.proofs.Parts.{put_number}
use Rattle.jl_array.proofs.blocks.put_numbers.Goals as goal

-- no numbers
pub numbers-init : goal.numbers-init
numbers-init c = record { bytes = sym numbers_none; signed = signed_none }

-- one number more
pub numbers-preserved : goal.numbers-preserved
unfolding number_bytes
numbers-preserved c =
    let i = c.numbers.i in
    let ns = c.args.numbers.now in
    let z = get_or ns i (pos 0) in
    let fits : FitsSigned w64 z = search rules in
    let more = take_more ns i (pos 0) c.numbers-test.true in
    let wrote = rw (to_z-of_z w64 z fits) at c.write_i64.ensures in
    record {
      bytes =
          put_number ns i _ z c.numbers.buf c.write_i64.new.buf _
          (omega (arith, c.numbers-test.true, c.numbers.auto.buf, c.requires)) wrote
          c.numbers.invariant.bytes more;
      signed =
          subst AreSigned (sym more) (signed_push (take i ns) z c.numbers.invariant.signed fits);
    }
