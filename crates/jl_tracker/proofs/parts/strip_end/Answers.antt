use Rattle.std.proofs.Common.{◌-◌, ◌∙◌, length, take, sym, cond, ap}
use Rattle.jl_tracker.specs.Parts.{strip_end}
use Rattle.jl_tracker.proofs.PartLemmas.{strip_end-last}
use Rattle.jl_tracker.proofs.parts.strip_end.Goals as goal

pub returns-then-not-is_blank : goal.returns-then-not-is_blank
returns-then-not-is_blank c =
    let bs = c.back.bytes.now in
    let here = strip_end-last bs c.in-len1-up.len_at_least in
    let test = c.is_blank.ensures in
    sym (ap (λ v. cond v (strip_end (take (length bs - 1) bs)) bs) (sym test ∙ c.if-not-is_blank.true)) ∙ sym here ∙ c.back.invariant

pub back-preserved : goal.back-preserved
back-preserved c =
    let bs = c.back.bytes.now in
    let here = strip_end-last bs c.in-len1-up.len_at_least in
    let test = c.is_blank.ensures in
    sym (ap (λ v. cond v (strip_end (take (length bs - 1) bs)) bs) (sym test ∙ c.if-not-is_blank.false)) ∙ sym here ∙ c.back.invariant
