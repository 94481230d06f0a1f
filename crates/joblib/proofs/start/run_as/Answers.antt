use Rattle.std.proofs.Common.{map, string_bytes}
use Rattle.jl_cmd.specs.Commands.{hash}
use Rattle.joblib.proofs.StartLemmas.{runs_own, behind_nothing, tells_run}
use Rattle.joblib.proofs.start.run_as.Goals as goal

pub returns-clause-words : goal.returns-clause-words
returns-clause-words g c =
    let runs = c.run-status.ensures.runs in
    runs_own (map string_bytes c.args.words.now) c.args.processors _ c.run-status.result _ c.new-host.ensures.processors runs.usage runs.usage_only
    (λ args is whole. let a = runs.output (hash args) is whole (record { told = tt; input = tt; sound = tt; others = tt }) in
    record { status = a.status; bytes = a.written; text = λ clear. let s = a.text clear in behind_nothing _ _ s.0 _ (s.1.silent (λ calling. calling) (λ telling. telling)) s.2 })

pub returns-clause-tells : goal.returns-clause-tells
returns-clause-tells g c = tells_run _ _ _ _ _ c.run-status.ensures.runs
