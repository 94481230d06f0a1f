use Rattle.std.proofs.Common.{◌≡◌, ◌∷◌, [], Result, Ok, inl, inr, subst}
use Rattle.std.specs.declared.alloc.AllocError.{AllocError}
use Rattle.jl_tracker.specs.Effects.{removes}
use Rattle.jl_tracker.specs.Plays.{PlaysOrStops}
use Rattle.jl_tracker.specs.Stages.{stage, folder_point}
use Rattle.jl_tracker.specs.Tries.{RemovalTry}
use Rattle.jl_tracker.specs.declared.removing.Tried.{Tried}
use Rattle.jl_tracker.specs.declared.removing.Tried.TheVariants as tried
use Rattle.jl_tracker.proofs.PlayLemmas.{gone_plays, kept_ends, cut_stops, on_err}
use Rattle.jl_tracker.proofs.effects.remove_reported.Goals as goal

-- what was removed is not kept
apart : (t : Tried) → t ≡ tried.Gone → ◌≡◌ {A = Result Tried AllocError} (Ok t) (Ok tried.Kept) → ⊥
apart t gone kept = cc

pub returns-in-Gone-clause-plays : goal.returns-in-Gone-clause-plays
returns-in-Gone-clause-plays g c =
    let view = g.F.Folder.view in
    let a = view c.args.folder.now in
    let b = view c.remove.new.folder in
    gone_plays c.args.kind c.args.name.now a b (g.E.Sink.view c.args.err.now)
    (λ t. subst (λ r. RemovalTry c.args.kind c.args.name.now (Ok r) (folder_point a) (folder_point b)) c.in-Gone.is (c.in_ok-remove.ensures.tries t))
    (λ e. apart _ c.in-Gone.is (c.in_ok-remove.ensures.semlock e))

pub returns-in-Kept-clause-plays : goal.returns-in-Kept-clause-plays
returns-in-Kept-clause-plays g c =
    let view = g.F.Folder.view in
    let a = view c.args.folder.now in
    let b = view c.remove.new.folder in
    let tries : a.told → RemovalTry c.args.kind c.args.name.now (Ok tried.Kept) (folder_point a) (folder_point b) = λ t. subst (λ r. RemovalTry c.args.kind c.args.name.now (Ok r) (folder_point a) (folder_point b)) c.in-Kept.is (c.in_ok-remove.ensures.tries t) in
    kept_ends (removes c.args.kind c.args.name.now) g.E.Sink.view c.args.err.now c.say_kept.new.err a b c.say_kept.result c.say_kept.ensures.wrote tries (λ t. inr (tries t))

pub returns-in_err-remove-clause-plays : goal.returns-in_err-remove-clause-plays
returns-in_err-remove-clause-plays g c =
    let view = g.F.Folder.view in
    let a = view c.args.folder.now in
    let b = view c.remove.new.folder in
    let err = g.E.Sink.view c.args.err.now in
    on_err (λ r. PlaysOrStops r (removes c.args.kind c.args.name.now ∷ []) (stage a err) (stage b err)) c.from_residual.result c.from_residual.ensures.0
    (λ e. cut_stops (removes c.args.kind c.args.name.now) a b err (λ t. inl (c.in_err-remove.ensures.tries t)))
