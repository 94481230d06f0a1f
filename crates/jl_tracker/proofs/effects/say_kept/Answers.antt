use Rattle.std.proofs.Common.{◌≡◌, false, codes, subst, sym}
use Rattle.std.specs.Prelude.{MatchResult}
use Rattle.jl_tracker.specs.Effects.{removal_text, about}
use Rattle.jl_tracker.specs.Plays.{Wrote}
use Rattle.jl_tracker.specs.Stages.{sink_point}
use Rattle.jl_tracker.proofs.effects.say_kept.Goals as goal

pub returns-in-Semlock-clause-wrote : goal.returns-in-Semlock-clause-wrote
returns-in-Semlock-clause-wrote g c =
    let view = g.E.Sink.view in
    let a = sink_point (view c.args.err.now) in
    let b = sink_point (view c.say-in-Semlock.new.err) in
    subst (λ k. MatchResult c.say-in-Semlock.result (λ done. (view c.args.err.now).told → Wrote (removal_text k c.args.name.now false) a b) (λ e. c.say-in-Semlock.new.err ≡ c.args.err.now)) (sym c.in-Semlock.is)
    (subst (λ k. MatchResult c.say-in-Semlock.result (λ done. (view c.args.err.now).told → Wrote (about (codes "not removed") k c.args.name.now) a b) (λ e. c.say-in-Semlock.new.err ≡ c.args.err.now)) c.in-Semlock.is c.say-in-Semlock.ensures.wrote)
