use Rattle.std.proofs.lemmas.Result.{IfOk-weaker}
use Rattle.jl_value.specs.Form.{tree_of}
use Rattle.jl_entry.proofs.Pieces.{pieces}
use Rattle.jl_entry.proofs.Entries.{entry_proper}
use Rattle.jl_entry.proofs.output.entry.Goals as goal

pub returns-clause-text : goal.returns-clause-text
returns-clause-text c =
    let all = pieces c.args.code.now c.args.args.now (tree_of c.args.value.now) in
    IfOk-weaker c.closed.result _ _ (λ s e. cc (all, e, c.in_ok-head.ensures, c.as_str.ensures, c.as_str-2.ensures, c.as_str-3.ensures, c.in_ok-args_text.ensures.text, c.in_ok-value_text.ensures.text)) c.closed.ensures

pub returns-clause-proper : goal.returns-clause-proper
returns-clause-proper c =
    let fact = entry_proper c.args.code.now c.args.args.now (tree_of c.args.value.now) c.utf8.code c.in_ok-args_text.ensures.proper c.in_ok-value_text.ensures.proper in
    IfOk-weaker c.closed.result _ _ (λ s e. fact) c.closed.ensures
