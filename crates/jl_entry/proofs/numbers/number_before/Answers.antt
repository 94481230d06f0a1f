use Rattle.std.proofs.Common.{◌∷◌, ◌++◌, sym, ◌∙◌}
use Rattle.jl_entry.proofs.DecimalEnds.{no_end, front_is, put_together}
use Rattle.jl_entry.proofs.numbers.number_before.Goals as goal

pub returns-in_default : goal.returns-in_default
returns-in_default c = no_end c.args.bytes.now c.args.stop c.requires c.in_default.ensures

pub returns-in_default-read_number : goal.returns-in_default-read_number
returns-in_default-read_number c = λ n rest small e.
    c.in_default-read_number.ensures n small (c.in-Some.ensures.1 ∙ front_is c.args.bytes.now c.args.stop c.requires n rest small e)

pub returns : goal.returns
returns c =
    let read = c.in-Some-read_number.ensures in
    let cut = c.in-Some.ensures in
    (read.0, put_together c.args.bytes.now c.args.stop cut.0 ∙ (λ i. (sym cut.1 ∙ read.1) i ++ c.args.stop ∷ sym cut.2 i))
