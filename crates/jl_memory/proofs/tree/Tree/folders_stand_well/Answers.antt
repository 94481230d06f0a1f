use Rattle.std.proofs.Common.{◌≤◌, ◌+◌, All, take, length, sym, subst}
use Rattle.std.proofs.lemmas.List.{take_all}
use Rattle.std.proofs.lemmas.List.Elements.{All-more}
use Rattle.jl_memory.specs.Trees.{StandsWell}
use Rattle.jl_memory.proofs.tree.Tree.folders_stand_well.Goals as goal

pub loop-path-preserved : goal.loop-path-preserved
loop-path-preserved c =
    let t = c.args.self.now in
    let i = c.loop-path.path-index in
    let same = c.as_slice-path-items.ensures in
    subst (λ l. All (StandsWell t) (take (i + 1) l)) same
    (All-more (StandsWell t) c.as_slice-path-items.result.now i c.path-item.result c.loop-path-test.true (subst (λ l. All (StandsWell t) (take i l)) (sym same) c.loop-path.invariant)
    (subst (StandsWell t) c.path-item.is (c.stands_well.ensures.yes c.if-not-stands_well.false)))

pub returns-clause-yes : goal.returns-clause-yes
returns-clause-yes c = λ _.
    let t = c.args.self.now in
    let i = c.loop-path.path-index in
    subst (All (StandsWell t)) (take_all i t.folders (subst (λ l. length l ≤ i) c.as_slice-path-items.ensures c.loop-path-test.false)) c.loop-path.invariant
