use Rattle.std.proofs.Common.{◌≤◌, arith}
use Rattle.jl_lexer.specs.Signs.{signs}
use Rattle.jl_lexer.specs.Trees.{height}
use Rattle.jl_module.proofs.BodyLemmas.{body_read, body_high, stop_broken, stop_deep}
use Rattle.jl_module.proofs.reader.read_body.Goals as goal

pub returns-then-height-gt-MOST_BRACKETS : goal.returns-then-height-gt-MOST_BRACKETS
returns-then-height-gt-MOST_BRACKETS c = body_high (signs c.args.bytes.now) c.in-Ok.tree c.in-Ok.ensures (omega (arith, c.height.ensures.same, c.if-height-gt-MOST_BRACKETS.true))

pub returns-in-Ok : goal.returns-in-Ok
returns-in-Ok c =
    let low : height c.in-Ok.tree ≤ 128 = omega (arith, c.height.ensures.same, c.if-height-gt-MOST_BRACKETS.false) in
    (body_read (signs c.args.bytes.now) c.in-Ok.tree c.in-Ok.ensures low, low)

pub returns-in-Err-Bad : goal.returns-in-Err-Bad
returns-in-Err-Bad c = stop_broken (signs c.args.bytes.now) c.in-Err-Bad.field-0 c.in-Err-Bad.field-0-is c.in-Err-Bad.ensures

pub returns-in-Err-Deep : goal.returns-in-Err-Deep
returns-in-Err-Deep c = stop_deep (signs c.args.bytes.now) c.in-Err-Deep.field-0 c.in-Err-Deep.field-0-is c.in-Err-Deep.ensures
