use Rattle.std.proofs.Common.{ℕ, sym, ap, ◌∙◌, subst, Vec, Global, true≢false}
use Rattle.std.specs.Str.{IsUtf8}
use Rattle.std.proofs.lemmas.Str.{IsUtf8-string_bytes}
use Rattle.jl_lexer.specs.Constants.{items_if}
use Rattle.jl_lexer.proofs.TextLemmas.{text_good, text_bad}
use Rattle.jl_lexer.proofs.word.text.Goals as goal

pub returns-in-Ok : goal.returns-in-Ok
returns-in-Ok c =
    text_good c.args.word.now c.in-Some.bytes.items c.new.result (sym c.in_ok-bytes.ensures ∙ ap items_if c.in-Some.is)
    (subst (λ (v : Vec ℕ Global). IsUtf8 v.items) c.in-Ok.ensures.ok (IsUtf8-string_bytes c.in-Ok.text))
    (c.new.ensures ∙ ap (λ (v : Vec ℕ Global). v.items) c.in-Ok.ensures.ok)

pub returns : goal.returns
returns c = text_bad c.args.word.now c.in-Some.bytes.items (sym c.in_ok-bytes.ensures ∙ ap items_if c.in-Some.is) (λ h. true≢false (sym (c.in-Err.ensures.succeeds h)))
