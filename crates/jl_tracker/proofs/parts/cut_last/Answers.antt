use Rattle.std.proofs.Common.{◌≡◌, ◌+◌, ◌-◌, ◌<◌, ◌∙◌, length, drop, take, sym, ap, subst, arith, length-drop}
use Rattle.std.proofs.lemmas.List.{take_all}
use Rattle.jl_tracker.specs.Parts.{CutsLast, has_colon}
use Rattle.jl_tracker.proofs.PartLemmas.{last_there}
use Rattle.jl_tracker.proofs.parts.cut_last.Goals as goal

pub returns-then-bytes-at-eq58 : goal.returns-then-bytes-at-eq58
returns-then-bytes-at-eq58 c =
    let bs = c.args.bytes.now in
    let at = c.back.at - 1 in
    let within : at < length bs = omega (arith, c.back.invariant.within, c.back-test.true) in
    let next : at + 1 ≡ c.back.at = omega (arith, c.back-test.true) in
    subst (λ l. CutsLast bs (take at bs) l) (sym (take_all (length bs - (at + 1)) (drop (at + 1) bs) (omega (arith, length-drop (at + 1) bs))))
    (last_there bs at within c.if-bytes-at-eq58.true (ap (λ n. has_colon (drop n bs)) next ∙ c.back.invariant.none))
