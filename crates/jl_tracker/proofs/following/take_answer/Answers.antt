use Rattle.std.proofs.Common.{Ok, Err, refl, sym, subst}
use Rattle.std.specs.declared.alloc.AllocError.{AllocError}
use Rattle.jl_tracker.specs.Effects.{reports_bad}
use Rattle.jl_tracker.specs.Stages.{stage}
use Rattle.jl_tracker.specs.Turns.{Handles, HandlesSome}
use Rattle.jl_tracker.proofs.PlayLemmas.{kept_ends, match_err}
use Rattle.jl_tracker.proofs.following.take_answer.Goals as goal

pub returns-in_ok-say_bad-in-TooLong-clause-cases : goal.returns-in_ok-say_bad-in-TooLong-clause-cases
returns-in_ok-say_bad-in-TooLong-clause-cases g c =
    let folder = g.F.Folder.view c.args.folder.now in
    let err = g.E.Sink.view in
    let a = stage folder (err c.args.err.now) in
    let b = stage folder (err c.say_bad.new.err) in
    subst (λ x. Handles x c.args.counts.now c.args.counts.now a b) (sym c.in-TooLong.is)
    (refl, kept_ends (reports_bad c.in-TooLong.no) err c.args.err.now c.say_bad.new.err folder folder {A = Unit {0}} {E = AllocError} (Ok tt) c.in_ok-say_bad-in-TooLong.ensures.wrote (λ t. refl) (λ t. refl))

pub returns-in_err-say_bad-in-TooLong-clause-cases : goal.returns-in_err-say_bad-in-TooLong-clause-cases
returns-in_err-say_bad-in-TooLong-clause-cases g c =
    let folder = g.F.Folder.view c.args.folder.now in
    let err = g.E.Sink.view in
    let a = stage folder (err c.args.err.now) in
    let b = stage folder (err c.say_bad.new.err) in
    match_err _ _ c.from_residual-in_err-say_bad-in-TooLong.result c.from_residual-in_err-say_bad-in-TooLong.ensures.0
    (λ e. subst (λ x. HandlesSome x c.args.counts.now a b) (sym c.in-TooLong.is)
    (kept_ends (reports_bad c.in-TooLong.no) err c.args.err.now c.say_bad.new.err folder folder {A = Unit {0}} {E = AllocError} (Err e) c.in_err-say_bad-in-TooLong.ensures.wrote (λ t. refl) (λ t. refl)))
