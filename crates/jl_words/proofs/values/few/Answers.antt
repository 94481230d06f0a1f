use Rattle.std.proofs.Common.{rules, ◌≡◌, ◌<◌, Some, arith}
use Rattle.jl_quota.specs.Limits.{count_of}
use Rattle.jl_words.proofs.Few.{few_are_small}
use Rattle.jl_words.proofs.values.few.Goals as goal

pub overflow_cast-result : goal.overflow_cast-result
overflow_cast-result c =
    let read : count_of c.args.text.now ≡ Some c.in_ok-count.count = search rules in
    let small : c.in_ok-count.count < 1000000000 = few_are_small c.args.text.now c.in_ok-count.count (omega arith) read in
    record { fits = omega arith }

pub returns-clause-small : goal.returns-clause-small
returns-clause-small c =
    let read : count_of c.args.text.now ≡ Some c.in_ok-count.count = search rules in
    few_are_small c.args.text.now c.in_ok-count.count (omega arith) read
