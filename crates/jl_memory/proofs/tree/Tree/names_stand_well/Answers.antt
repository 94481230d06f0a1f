use Rattle.std.proofs.Common.{◌≤◌, ◌+◌, All, take, length, sym, subst}
use Rattle.std.proofs.lemmas.List.{take_all}
use Rattle.std.proofs.lemmas.List.Elements.{All-more}
use Rattle.jl_memory.specs.Trees.{StandsWell}
use Rattle.jl_memory.proofs.tree.Tree.names_stand_well.Goals as goal

pub loop-name-preserved : goal.loop-name-preserved
loop-name-preserved c =
    let t = c.args.self.now in
    let i = c.loop-name.name-index in
    let same = c.as_slice-name-items.ensures in
    subst (λ l. All (λ e. StandsWell t e.0) (take (i + 1) l)) same
    (All-more (λ e. StandsWell t e.0) c.as_slice-name-items.result.now i c.name-item.result c.loop-name-test.true (subst (λ l. All (λ e. StandsWell t e.0) (take i l)) (sym same) c.loop-name.invariant)
    (subst (λ e. StandsWell t e.0) c.name-item.is (c.stands_well.ensures.yes c.if-not-stands_well.false)))

pub returns-clause-yes : goal.returns-clause-yes
returns-clause-yes c = λ _.
    let t = c.args.self.now in
    let i = c.loop-name.name-index in
    subst (All (λ e. StandsWell t e.0)) (take_all i t.names (subst (λ l. length l ≤ i) c.as_slice-name-items.ensures c.loop-name-test.false)) c.loop-name.invariant
