use Rattle.std.proofs.lemmas.Result.{IfOk-weaker, MatchResult-weaker}
use Rattle.std.proofs.lemmas.Str.{is_utf8-from_IsUtf8}
use Rattle.jl_value.specs.Form.{tree_of}
use Rattle.serde_json.specs.View.{view}
use Rattle.jl_value.proofs.Nests.{walk_ok_nests}
use Rattle.jl_value.proofs.Walks.{refused}
use Rattle.jl_value.proofs.reading.read_value.Goals as goal

pub returns-in-Ok-clause-ok : goal.returns-in-Ok-clause-ok
returns-in-Ok-clause-ok c = IfOk-weaker c.walk.result _ _ (λ v e. rw (is_utf8-from_IsUtf8 _ c.in-Ok.ensures.ok.0, c.in-Ok.ensures.ok.1) e) c.walk.ensures.ok

pub returns-in-Ok-clause-fault : goal.returns-in-Ok-clause-fault
returns-in-Ok-clause-fault c = MatchResult-weaker c.walk.result c.walk.ensures.fault (λ v p. p) (λ f p other. rw (is_utf8-from_IsUtf8 _ c.in-Ok.ensures.ok.0, c.in-Ok.ensures.ok.1) (p other))

pub returns-in_default : goal.returns-in_default
returns-in_default c =
    record { ok = tt; fault = λ other. refused c.args.depth c.args.bytes.now (c.in-Err.ensures.err (λ m. c.in_default.not-Memory (c.classify.ensures.memory.1 m))); proper = tt; nests = tt }

pub returns-in-Ok-clause-nests : goal.returns-in-Ok-clause-nests
returns-in-Ok-clause-nests c = IfOk-weaker c.walk.result _ _ (λ v e. walk_ok_nests c.args.depth (view c.in-Ok.json) (tree_of v) e) c.walk.ensures.ok
