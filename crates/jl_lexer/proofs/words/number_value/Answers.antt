use Rattle.std.proofs.Common.{◌+◌, ◌-◌, ◌*◌, ◌^◌, ◌≤◌, get_or, arith}
use Rattle.jl_lexer.proofs.NumberLemmas.{over_before, over_behind}
use Rattle.jl_lexer.proofs.words.number_value.Goals as goal

pub returns-then-value-gt922337203685477580-clause-value : goal.returns-then-value-gt922337203685477580-clause-value
returns-then-value-gt922337203685477580-clause-value c =
    let over = over_before c.args.word.now c.loop-digit.value c.loop-digit.digit-index c.loop-digit-test.true c.loop-digit.invariant.0 c.if-value-gt922337203685477580.true in
    rw over

pub returns-then-value-gt9223372036854775807-clause-value : goal.returns-then-value-gt9223372036854775807-clause-value
returns-then-value-gt9223372036854775807-clause-value c =
    let large : 2 ^ 63 ≤ c.loop-digit.value * 10 + (get_or c.args.word.now c.loop-digit.digit-index 0 - 48) = omega (arith, c.from.ensures) in
    let over = over_behind c.args.word.now c.loop-digit.value c.loop-digit.digit-index c.loop-digit-test.true c.loop-digit.invariant.0 large in
    rw over
