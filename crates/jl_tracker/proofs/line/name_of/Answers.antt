use Rattle.std.proofs.Common.{◌∙◌, sym, ap, true≢false}
use Rattle.jl_tracker.specs.TrackerLines.{is_named}
use Rattle.jl_tracker.proofs.SaidLemmas.{is_named-sound, is_named-complete}
use Rattle.jl_tracker.proofs.line.name_of.Goals as goal

pub returns-then-is_named : goal.returns-then-is_named
returns-then-is_named c =
    let same = c.in-Ok.ensures.cases.0 in
    (same, is_named-sound c.args.kind c.args.name.now c.in-Ok.ensures.cases.1 (ap (is_named c.args.kind) (sym same) ∙ sym c.is_named.ensures ∙ c.if-is_named.true))

pub returns-else-is_named : goal.returns-else-is_named
returns-else-is_named c = λ h.
    let same = c.in-Ok.ensures.cases.0 in
    true≢false (sym (ap (is_named c.args.kind) same ∙ is_named-complete c.args.kind c.args.name.now h) ∙ sym c.is_named.ensures ∙ c.if-is_named.false)
