use Rattle.std.proofs.Common.{sym, ap, ◌∙◌}
use Rattle.jl_value.specs.Tiny.{is_decimal}
use Rattle.jl_value.proofs.TinyLemmas.{parsed}
use Rattle.jl_value.proofs.testing.tiny.number_of.Goals as goal

pub returns : goal.returns
returns c =
    let decimal = ap is_decimal (sym c.as_bytes.ensures.value) ∙ sym c.is_decimal.ensures ∙ c.if-not-is_decimal.false in
    c.ok.ensures.value ∙ parsed c.args.text.now c.parse.result decimal c.parse.ensures.value.0
