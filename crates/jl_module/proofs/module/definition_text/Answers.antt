use Rattle.std.proofs.Common.{sym, ◌∙◌}
use Rattle.std.proofs.lemmas.Str.{is_utf8-from_IsUtf8}
use Rattle.jl_lexer.proofs.TextLemmas.{not_utf8}
use Rattle.jl_module.proofs.LineLemmas.{begins_by, begins_not}
use Rattle.jl_module.proofs.module.definition_text.Goals as goal

pub returns-then-defines : goal.returns-then-defines
returns-then-defines c =
    (c.in-Ok.ensures.cases.0, begins_by c.args.name.now c.args.code.now (is_utf8-from_IsUtf8 c.args.code.now c.in-Ok.ensures.cases.1) (sym c.begins_word.ensures ∙ c.if-not-begins_word.false) (sym c.defines.ensures ∙ c.if-defines.true))

pub returns-in-Err : goal.returns-in-Err
returns-in-Err c = begins_not c.args.name.now c.args.code.now (not_utf8 c.args.code.now c.in-Err.ensures.cases.0)
