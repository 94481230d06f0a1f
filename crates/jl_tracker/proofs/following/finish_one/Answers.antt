use Rattle.std.proofs.Common.{◌∷◌, [], false, Ok, Err, refl, subst}
use Rattle.std.specs.declared.alloc.AllocError.{AllocError}
use Rattle.jl_folder.proofs.Frames.{keeps_none}
use Rattle.jl_tracker.specs.Effects.{reports_leaked, removes, text_of}
use Rattle.jl_tracker.specs.Plays.{Wrote, PlaysOrStops}
use Rattle.jl_tracker.specs.Stages.{stage, sink_point}
use Rattle.jl_tracker.proofs.PlayLemmas.{kept_ends, stops_before, ends_then, on_err}
use Rattle.jl_tracker.proofs.following.finish_one.Goals as goal

pub returns-in_err-say-clause-plays : goal.returns-in_err-say-clause-plays
returns-in_err-say-clause-plays g c =
    let k = c.args.leaked.now.kind in
    let name = c.args.leaked.now.name in
    let folder = g.F.Folder.view c.args.folder.now in
    let err = g.E.Sink.view in
    let a = stage folder (err c.args.err.now) in
    let b = stage folder (err c.say.new.err) in
    on_err (λ r. PlaysOrStops r (reports_leaked k name ∷ (removes k name ∷ [])) a b) c.from_residual.result c.from_residual.ensures.0
    (λ e. stops_before (reports_leaked k name ∷ []) (removes k name ∷ []) a b
    (kept_ends (reports_leaked k name) err c.args.err.now c.say.new.err folder folder {A = Unit {0}} {E = AllocError} (Err e) c.in_err-say.ensures.wrote (λ t. refl) (λ t. refl)))

pub returns-clause-plays : goal.returns-clause-plays
returns-clause-plays g c =
    let folder = g.F.Folder.view in
    let err = g.E.Sink.view in
    let k = c.args.leaked.now.kind in
    let name = c.args.leaked.now.name in
    let here = folder c.args.folder.now in
    let a = stage here (err c.args.err.now) in
    let m = stage here (err c.say.new.err) in
    let b = stage (folder c.remove_reported.new.folder) (err c.remove_reported.new.err) in
    ends_then (reports_leaked k name ∷ []) (removes k name ∷ []) a m b c.remove_reported.result
    (record { folder = keeps_none here; err = c.say.ensures.frame })
    (kept_ends (reports_leaked k name) err c.args.err.now c.say.new.err here here {A = Unit {0}} {E = AllocError} (Ok tt) (λ t. subst (λ n. Wrote (text_of (reports_leaked k n) false) (sink_point (err c.args.err.now)) (sink_point (err c.say.new.err))) c.as_str.ensures (c.in_ok-say.ensures.wrote t)) (λ t. refl) (λ t. refl))
    (subst (λ n. PlaysOrStops c.remove_reported.result (removes k n ∷ []) m b) c.as_str-2.ensures c.remove_reported.ensures.plays)
