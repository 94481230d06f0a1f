use Rattle.std.proofs.Common.{ℕ, List, [], ◌∷◌, ◌++◌, sym, ap, ◌∙◌, subst}
use Rattle.std.proofs.lemmas.Result.{IfOk-weaker}
use Rattle.json.specs.Token.{Token}
use Rattle.json.specs.Print.{print}
use Rattle.json.specs.Tree.{members_tokens}
use Rattle.serde_json.specs.Written.{members_outline}
use Rattle.jl_value.specs.Canonical.{members_json}
use Rattle.jl_value.specs.Key.{args_tree}
use Rattle.jl_value.specs.Tree.{Tree, members_of}
use Rattle.jl_value.specs.Proper.{AreKeys, HasProper, keys}
use Rattle.jl_value.specs.Tokens.{table_tokens}
use Rattle.jl_value.proofs.Keys.{keys_entries}
use Rattle.jl_value.proofs.Texts.{printed}
use Rattle.jl_value.proofs.writing.canonical_table.Goals as goal

pub returns-clause-text : goal.returns-clause-text
returns-clause-text c =
    let ms = c.members.result.now in
    let begun = c.in_ok-begin_object.ensures.ok ∙ ap (λ l. l ++ Token.begin_object ∷ []) c.new-writer.ensures.tokens in
    let all = c.in_ok-write_table.ensures.tokens ∙ ap (λ l. l ++ table_tokens ms) begun in
    let same = ap (λ ps. Token.begin_object ∷ members_tokens (members_outline (members_json (members_of ps)))) c.members.ensures.members in
    IfOk-weaker c.text.result _ _ (λ t e. e ∙ ap print all ∙ ap print same ∙ printed (args_tree c.args.table.now)) c.text.ensures

pub returns-clause-proper : goal.returns-clause-proper
returns-clause-proper c =
    let ms = c.members.result.now in
    let all = subst AreKeys (sym (keys_entries ms)) c.members.ensures.keys in
    let fact = subst (λ (ps : List (List ℕ × Tree)). AreKeys (keys (members_of ps)) × HasProper (members_of ps)) c.members.ensures.members (all, c.in_ok-write_table.ensures.proper) in
    IfOk-weaker c.text.result _ _ (λ t e. fact) c.text.ensures
