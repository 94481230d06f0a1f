use Rattle.std.proofs.Common.{sym, ap, ◌∙◌, subst, decimal, arith}
use Rattle.std.specs.Str.{IsUtf8}
use Rattle.std.proofs.lemmas.Str.{IsUtf8-from_ascii}
use Rattle.std.proofs.lemmas.Fmt.{IsAscii-decimal}
use Rattle.jl_entry.proofs.DecimalEnds.{parsed_is, not_err, same_ok}
use Rattle.jl_entry.proofs.Entries.{unequal}
use Rattle.jl_entry.proofs.numbers.read_number.Goals as goal

pub returns-in_default : goal.returns-in_default
returns-in_default c = λ n small e. c.in_default.ensures.cases.0 (subst IsUtf8 (sym e) (IsUtf8-from_ascii (decimal n) (IsAscii-decimal n (omega arith))))

pub returns-in_default-parse : goal.returns-in_default-parse
returns-in_default-parse c = λ n small e.
    not_err n c.in_default-parse.field-0 c.parse.result c.in_default-parse.is
    (parsed_is n c.args.digits.now c.in-Ok.text.now c.parse.result small c.in-Ok.ensures.cases.0 e c.parse.ensures.value.0)

pub returns-then-number-gt-LAST_MOMENT : goal.returns-then-number-gt-LAST_MOMENT
returns-then-number-gt-LAST_MOMENT c = λ n small e.
    let same = same_ok c.in-Ok-parse.number n c.parse.result c.in-Ok-parse.is
    (parsed_is n c.args.digits.now c.in-Ok.text.now c.parse.result small c.in-Ok.ensures.cases.0 e c.parse.ensures.value.0) in
    omega arith

pub returns-then-ne : goal.returns-then-ne
returns-then-ne c = λ n small e.
    let same = same_ok c.in-Ok-parse.number n c.parse.result c.in-Ok-parse.is
    (parsed_is n c.args.digits.now c.in-Ok.text.now c.parse.result small c.in-Ok.ensures.cases.0 e c.parse.ensures.value.0) in
    unequal c.as_bytes.result.now c.args.digits.now c.ne.result c.ne.ensures c.if-ne.true (c.as_bytes.ensures.value ∙ c.format.ensures.text ∙ ap decimal same ∙ sym e)
