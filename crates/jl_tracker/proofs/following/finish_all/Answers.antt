use Rattle.std.proofs.Common.{◌∙◌, ◌∷◌, ◌++◌, [], sym, ap, subst}
use Rattle.std.proofs.lemmas.List.{append_assoc}
use Rattle.jl_tracker.specs.Effects.{reports_leaked, removes, left_effects, end_effects}
use Rattle.jl_tracker.specs.Plays.{Stops, PlaysOrStops}
use Rattle.jl_tracker.specs.Stages.{stage}
use Rattle.jl_tracker.specs.Turns.{AreRemovable}
use Rattle.jl_tracker.proofs.PlayLemmas.{stops_before, plays_trans, plays_stops, on_err}
use Rattle.jl_tracker.proofs.StageLemmas.{stage_keeps_trans}
use Rattle.jl_tracker.proofs.following.finish_all.Goals as goal

pub returns-in_err-finish_one-clause-plays : goal.returns-in_err-finish_one-clause-plays
returns-in_err-finish_one-clause-plays g c =
    let folder = g.F.Folder.view in
    let err = g.E.Sink.view in
    let i = c.left.invariant in
    let pair = reports_leaked c.in-Some.leaked.kind c.in-Some.leaked.name ∷ (removes c.in-Some.leaked.kind c.in-Some.leaked.name ∷ []) in
    let first = i.played.0 in
    let rest = end_effects c.finish.new.self in
    let a = stage (folder c.args.folder.now) (err c.args.err.now) in
    let m = stage (folder c.left.folder) (err c.left.err) in
    let b = stage (folder c.finish_one.new.folder) (err c.finish_one.new.err) in
    let split = i.played.1 ∙ ap (λ l. first ++ left_effects l) c.in-Some.ensures.0 ∙ sym (append_assoc first pair rest) in
    on_err (λ r. PlaysOrStops r (end_effects c.args.counts.now) a b) c.from_residual.result c.from_residual.ensures.0
    (λ e. subst (λ es. Stops es a b) (sym split) (stops_before (first ++ pair) rest a b (plays_stops first pair a m b i.frame i.played.2 c.in_err-finish_one.ensures.plays)))

pub returns-in_err-finish_one-clause-frame : goal.returns-in_err-finish_one-clause-frame
returns-in_err-finish_one-clause-frame g c =
    let folder = g.F.Folder.view in
    let err = g.E.Sink.view in
    stage_keeps_trans (stage (folder c.args.folder.now) (err c.args.err.now)) (stage (folder c.left.folder) (err c.left.err)) (stage (folder c.finish_one.new.folder) (err c.finish_one.new.err)) c.left.invariant.frame c.finish_one.ensures.frame

pub left-preserved : goal.left-preserved
left-preserved g c =
    let folder = g.F.Folder.view in
    let err = g.E.Sink.view in
    let i = c.left.invariant in
    let pair = reports_leaked c.in-Some.leaked.kind c.in-Some.leaked.name ∷ (removes c.in-Some.leaked.kind c.in-Some.leaked.name ∷ []) in
    let first = i.played.0 in
    let rest = end_effects c.finish.new.self in
    let a = stage (folder c.args.folder.now) (err c.args.err.now) in
    let m = stage (folder c.left.folder) (err c.left.err) in
    let b = stage (folder c.finish_one.new.folder) (err c.finish_one.new.err) in
    let split = i.played.1 ∙ ap (λ l. first ++ left_effects l) c.in-Some.ensures.0 ∙ sym (append_assoc first pair rest) in
    record {
      frame = stage_keeps_trans a m b i.frame c.finish_one.ensures.frame;
      removable = (subst AreRemovable c.in-Some.ensures.0 i.removable).1;
      played = (first ++ pair, split, plays_trans first pair a m b i.frame i.played.2 c.in_ok-finish_one.ensures.plays);
    }
