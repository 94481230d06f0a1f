use Rattle.std.proofs.Common.{sym, ap, ◌∙◌, []}
use Rattle.std.specs.Prelude.{if◌then◌else◌}
use Rattle.std.proofs.lemmas.Str.{is_utf8-from_IsUtf8}
use Rattle.jl_value.proofs.Utf8.{is_utf8-not}
use Rattle.jl_value.proofs.testing.tiny.as_text.Goals as goal

pub returns-in-Ok : goal.returns-in-Ok
returns-in-Ok c = let text = c.in-Ok.ensures.cases in text.0 ∙ sym (ap (λ b. if b then c.args.bytes.now else []) (is_utf8-from_IsUtf8 c.args.bytes.now text.1))

pub returns-in-Err : goal.returns-in-Err
returns-in-Err c = sym (ap (λ b. if b then c.args.bytes.now else []) (is_utf8-not c.args.bytes.now c.in-Err.ensures.cases.0))
