use Rattle.std.proofs.Common.{◌≡◌, true, false, arith}
use Rattle.jl_lexer.specs.Words.{is_identifier}
use Rattle.jl_lexer.specs.Marks.{is_mark}
use Rattle.jl_module.proofs.ReaderLemmas.{parameter_on}
use Rattle.jl_module.proofs.reader.next_parameter.Goals as goal

pub returns-then-is_identifier : goal.returns-then-is_identifier
returns-then-is_identifier c =
    let open_still : is_mark 41 c.in-Some.sign.now ≡ false = cc in
    let comma : is_mark 44 c.in-Some.sign.now ≡ true = cc in
    let named : is_identifier c.in-Some-next_sign.name.now ≡ true = cc in (
      omega (arith, c.in-Some.ensures.1, c.in-Some-next_sign.ensures.1),
      λ ps. parameter_on ps _ _ _ _ _ c.in-Some.ensures.0 c.in-Some-next_sign.ensures.0 open_still comma named,
    )
