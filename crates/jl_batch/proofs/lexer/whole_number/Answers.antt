use Rattle.std.proofs.Common.{◌≡◌, ◌<◌, ◌^◌, length, Some, nat_lt, sym, ap, ◌∙◌, rules, arith}
use Rattle.std.specs.Prelude.{pos}
use Rattle.std.specs.Char.{is_ascii_digit}
use Rattle.std.specs.List.{list_all}
use Rattle.std.proofs.lemmas.Bool.{and_parts}
use Rattle.std.proofs.lemmas.Int.{to_z_pos}
use Rattle.std.proofs.lemmas.Option.{same_Some}
use mir.Syntax.{w64}
use Rattle.jl_numbers.specs.Digits.{decimal}
use Rattle.jl_numbers.proofs.DigitLemmas.{number_of-few, decimal-below, ten-le}
use Rattle.jl_batch.proofs.lexer.whole_number.Goals as goal

pub unwrap-requires : goal.unwrap-requires
unwrap-requires c =
    let found : c.read_decimal.result ≡ Some (decimal c.args.digits.now) = c.read_decimal.ensures.number ∙ number_of-few _ 18 c.args.digits.now c.requires.digits c.requires.few (omega arith) in
    search rules

pub returns : goal.returns
returns c =
    let digits = c.args.digits.now in
    let found : c.read_decimal.result ≡ Some (decimal digits) = c.read_decimal.ensures.number ∙ number_of-few _ 18 digits c.requires.digits c.requires.few (omega arith) in
    let same : c.unwrap.result ≡ decimal digits = same_Some c.unwrap.result (decimal digits) (sym c.unwrap.ensures ∙ found) in
    let below = decimal-below digits (and_parts (nat_lt 0 (length digits)) (list_all is_ascii_digit digits) c.requires.digits).1 in
    let grown = ten-le (length digits) 18 c.requires.few in
    let small : c.unwrap.result < 2 ^ 63 = omega arith in
    to_z_pos w64 c.unwrap.result small ∙ ap pos same
