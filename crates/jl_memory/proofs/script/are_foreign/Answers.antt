use Rattle.std.proofs.Common.{All, sym, subst}
use Rattle.std.proofs.lemmas.List.{take_all}
use Rattle.std.proofs.lemmas.List.Elements.{All-more, All-get_or}
use Rattle.jl_folder.specs.State.{IsForeign}
use Rattle.jl_memory.proofs.script.are_foreign.Goals as goal

pub loop-group-preserved : goal.loop-group-preserved
loop-group-preserved c =
    let token = c.args.token.now in
    let x = c.group-item.result in
    All-more (λ o. IsForeign token o.1.items) c.args.others.now c.loop-group.group-index x c.loop-group-test.true c.loop-group.invariant
    (subst (λ o. IsForeign token o.1.items) c.group-item.is (subst (IsForeign token) c.as_slice.ensures.value (c.has_own_move.ensures.none c.if-has_own_move.false)))

pub returns-clause-yes : goal.returns-clause-yes
returns-clause-yes c = λ _. subst (All (λ o. IsForeign c.args.token.now o.1.items)) (take_all c.loop-group.group-index c.args.others.now c.loop-group-test.false) c.loop-group.invariant

pub returns-then-has_own_move-clause-no : goal.returns-then-has_own_move-clause-no
returns-then-has_own_move-clause-no c = λ _ foreign.
    let token = c.args.token.now in
    let x = c.group-item.result in
    let here : IsForeign token x.1.items = subst (λ o. IsForeign token o.1.items) (sym c.group-item.is) (All-get_or (λ o. IsForeign token o.1.items) c.args.others.now c.loop-group.group-index x c.loop-group-test.true foreign) in
    c.has_own_move.ensures.some c.if-has_own_move.true (subst (IsForeign token) (sym c.as_slice.ensures.value) here)
