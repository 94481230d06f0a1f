use Rattle.std.proofs.Common.{ℕ, List, inl, inr, refl, subst}
use Rattle.jl_cmd.specs.declared.computed.Computed.TheVariants as computed
use Rattle.jl_cmd.specs.Computing.{WritesComputed}
use Rattle.jl_cmd.proofs.reduce.print_report.Goals as goal

pub returns-in-Ok-clause-writes : goal.returns-in-Ok-clause-writes
returns-in-Ok-clause-writes g c =
    let sink = g.O.Sink in
    inl (subst (λ (t : List ℕ). WritesComputed (computed.Printed t) c.finish.result (sink.view c.args.out.now) (sink.view c.finish.new.out)) c.in-Ok.ensures c.finish.ensures.writes)

pub returns-in-Err-clause-writes : goal.returns-in-Err-clause-writes
returns-in-Err-clause-writes g c = inr (refl, λ _. refl)
