use Rattle.std.proofs.Common.{◌≡◌, length, take, true, nat_lt, subst, sym, arith}
use Rattle.std.specs.List.{list_all, prefix_len}
use Rattle.std.specs.Char.{is_ascii_digit}
use Rattle.std.proofs.lemmas.Bool.{and_from, lt-ltb}
use Rattle.std.proofs.lemmas.List.Folds.{length-prefix_len}
use Rattle.jl_numbers.specs.Digits.{are_digits}
use Rattle.jl_numbers.proofs.DigitLemmas.{digits_front}
use Rattle.jl_batch.proofs.lexer.whole.Goals as goal

pub whole_number-requires-clause-digits : goal.whole_number-requires-clause-digits
whole_number-requires-clause-digits c =
    let text = c.args.bytes.now in
    let n = prefix_len is_ascii_digit text in
    let long = length-prefix_len is_ascii_digit text in
    let front : are_digits (take n text) ≡ true = and_from (nat_lt 0 (length (take n text))) (list_all is_ascii_digit (take n text)) (lt-ltb 0 (length (take n text)) (omega (arith, c.requires))) (digits_front text) in
    subst (λ k. are_digits (take k text) ≡ true) (sym c.count_digits-count.ensures.count) front
