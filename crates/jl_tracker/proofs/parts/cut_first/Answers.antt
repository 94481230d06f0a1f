use Rattle.std.proofs.Common.{◌+◌, ◌-◌, length, drop, take, sym, subst, arith, length-drop}
use Rattle.std.proofs.lemmas.List.{take_all}
use Rattle.jl_tracker.specs.Parts.{CutsFirst}
use Rattle.jl_tracker.proofs.PartLemmas.{position-some, position-none}
use Rattle.jl_tracker.proofs.parts.cut_first.Goals as goal

pub returns-in-Some : goal.returns-in-Some
returns-in-Some c =
    let bs = c.args.bytes.now in
    let k = c.in-Some.at in
    subst (λ l. CutsFirst bs (take k bs) l) (sym (take_all (length bs - (k + 1)) (drop (k + 1) bs) (omega (arith, length-drop (k + 1) bs)))) (position-some bs k (sym c.in-Some.ensures))

pub returns-in-None : goal.returns-in-None
returns-in-None c = position-none c.args.bytes.now (sym c.in-None.ensures)
