use Rattle.std.proofs.Common.{◌++◌, ap, ◌∙◌}
use Rattle.std.proofs.lemmas.Result.{IfOk-weaker}
use Rattle.json.specs.Print.{print}
use Rattle.jl_value.specs.Form.{tree_of}
use Rattle.jl_value.specs.Tokens.{tokens_of}
use Rattle.jl_value.specs.Walked.{read_bytes}
use Rattle.jl_value.proofs.Texts.{printed}
use Rattle.jl_value.proofs.Utf8.{read_bytes_back}
use Rattle.jl_value.proofs.Trips.{text_injective}
use Rattle.jl_value.proofs.writing.canonical.Goals as goal

pub returns-clause-text : goal.returns-clause-text
returns-clause-text c =
    let v = tree_of c.args.value.now in
    let whole = ap print c.in_ok-write.ensures.tokens ∙ ap (λ l. print (l ++ tokens_of v)) c.new-writer.ensures.tokens ∙ printed v in
    IfOk-weaker c.text.result _ _ (λ t e. e ∙ whole) c.text.ensures

pub returns-clause-reads_back : goal.returns-clause-reads_back
returns-clause-reads_back c =
    let v = tree_of c.args.value.now in
    let whole = ap print c.in_ok-write.ensures.tokens ∙ ap (λ l. print (l ++ tokens_of v)) c.new-writer.ensures.tokens ∙ printed v in
    IfOk-weaker c.text.result _ _ (λ t e depth deep small. ap (read_bytes depth) (e ∙ whole) ∙ read_bytes_back depth v c.in_ok-write.ensures.proper deep small) c.text.ensures

pub returns-clause-alone : goal.returns-clause-alone
returns-clause-alone c =
    let v = tree_of c.args.value.now in
    let whole = ap print c.in_ok-write.ensures.tokens ∙ ap (λ l. print (l ++ tokens_of v)) c.new-writer.ensures.tokens ∙ printed v in
    IfOk-weaker c.text.result _ _ (λ t e other proper same. text_injective other v proper c.in_ok-write.ensures.proper (same ∙ e ∙ whole)) c.text.ensures
