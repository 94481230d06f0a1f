use Rattle.std.proofs.Common.{◌≡◌, ◌+◌, ◌∙◌, ◌++◌, List, ◌∷◌, [], take, sym, ap, subst, add-one}
use Rattle.std.proofs.Math.Seq.{take-suc}
use Rattle.std.proofs.lemmas.List.{take_all}
use Rattle.jl_text.specs.Paths.{PathView}
use Rattle.jl_rely.specs.Claims.{Anywhere}
use Rattle.jl_clear.specs.declared.removing.Clear.TheVariants.{Cleared}
use Rattle.jl_clear.specs.Clearing.{Clears}
use Rattle.jl_clear.proofs.Parts.{clears_stop}
use Rattle.jl_evict.specs.declared.item.Item.{Item}
use Rattle.jl_evict.specs.Reducing.{IsOf, Chosen}
use Rattle.jl_evict.proofs.ReduceLemmas.{chosen_start, chosen_next, chosen_one}
use Rattle.jl_evict.proofs.reducing.clear_chosen.Goals as goal

pub clear_one-requires : goal.clear_one-requires
clear_one-requires g c = c.requires c.item-item.result (c.loop-item.item-index, c.loop-item-test.true, sym c.item-item.is)

pub loop-item-init : goal.loop-item-init
loop-item-init g c = chosen_start c.args.root.now c.args.chosen.now (g.F.Folder.view c.args.folder.now)

pub loop-item-preserved : goal.loop-item-preserved
loop-item-preserved g c =
    let v = g.F.Folder.view in
    let items = c.args.chosen.now in
    let i = c.loop-item.item-index in
    let item = c.item-item.result in
    let grown : take (i + 1) items ≡ take i items ++ item ∷ [] = ap (λ n. take n items) (add-one i) ∙ take-suc items i item c.loop-item-test.true ∙ ap (λ x. take i items ++ x ∷ []) (sym c.item-item.is) in
    chosen_next c.args.root.now items i item (v c.args.folder.now) (v c.loop-item.folder) (v c.clear_one.new.folder) grown (i, c.loop-item-test.true, sym c.item-item.is) c.loop-item.invariant c.in-Cleared.ensures

pub returns-in_default : goal.returns-in_default
returns-in_default g c =
    let v = g.F.Folder.view in
    let root = c.args.root.now in
    let items = c.args.chosen.now in
    let Front : PathView → Type 0 = Chosen root (take c.loop-item.item-index items) in
    let This : PathView → Type 0 = IsOf root c.item-item.result in
    clears_stop root Anywhere Anywhere Anywhere (Chosen root items) Front This (Chosen root items) Front This (Chosen root items) c.clear_one.result (v c.args.folder.now) (v c.loop-item.folder) (v c.clear_one.new.folder) c.in_default.not-Cleared c.loop-item.invariant
    (chosen_one root items c.item-item.result c.clear_one.result (v c.loop-item.folder) (v c.clear_one.new.folder) (c.loop-item.item-index, c.loop-item-test.true, sym c.item-item.is) c.clear_one.ensures)

pub returns : goal.returns
returns g c =
    let v = g.F.Folder.view in
    let root = c.args.root.now in
    subst (λ (xs : List Item). Clears root Anywhere (Chosen root c.args.chosen.now) (Chosen root xs) (Chosen root xs) Cleared (v c.args.folder.now) (v c.loop-item.folder)) (take_all c.loop-item.item-index c.args.chosen.now c.loop-item-test.false) c.loop-item.invariant
