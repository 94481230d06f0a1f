use Rattle.std.proofs.Common.{rules, ◌≡◌, None, get_or, fold, sym, ap, ◌∙◌, arith}
use Rattle.std.proofs.lemmas.List.{drop_all}
use Rattle.jl_numbers.specs.Digits.{longer, decimal, at_most}
use Rattle.jl_numbers.proofs.DigitLemmas.{past, fits}
use Rattle.jl_numbers.proofs.digits.decimal.Goals as goal

pub returns-in_err-value : goal.returns-in_err-value
returns-in_err-value c =
    let none : at_most 18446744073709551615 (longer c.loop-digit.value (get_or c.args.digits.now c.loop-digit.digit-index 0)) ≡ None = search rules in
    let answer : c.from_residual.result ≡ None = search rules in
    answer ∙ sym (past _ c.args.digits.now c.loop-digit.digit-index c.loop-digit.value (omega arith) c.loop-digit.invariant.1 none)

pub returns : goal.returns
returns c =
    let whole : c.loop-digit.value ≡ decimal c.args.digits.now = sym (ap (fold longer c.loop-digit.value) (drop_all c.loop-digit.digit-index c.args.digits.now (omega arith))) ∙ c.loop-digit.invariant.1 in
    fits _ c.loop-digit.value (decimal c.args.digits.now) whole (omega arith)
