use Rattle.std.proofs.Common.{◌≡◌, ◌+◌, ◌∙◌, ◌++◌, List, ◌∷◌, [], take, ap, sym, subst, add-one}
use Rattle.std.proofs.Math.Seq.{take-suc}
use Rattle.std.proofs.lemmas.List.{take_all}
use Rattle.jl_folder.specs.declared.listing.Name.{Name}
use Rattle.jl_evict.specs.declared.measure.Measure.TheVariants as measure
use Rattle.jl_evict.specs.Items.{HadBytes}
use Rattle.jl_evict.specs.Walks.{Measures, HadSize}
use Rattle.jl_evict.proofs.SumLemmas.{sums_none, sums_more, sums_stop}
use Rattle.jl_evict.proofs.measure.entry_bytes.Goals as goal

pub loop-name-init : goal.loop-name-init
loop-name-init g c = sums_none c.args.entry.now c.args.names.now (g.F.Folder.view c.args.folder.now)

pub loop-name-preserved : goal.loop-name-preserved
loop-name-preserved g c =
    let v = g.F.Folder.view in
    let names = c.args.names.now in
    let i = c.loop-name.name-index in
    let item = c.name-item.result in
    let grown : take (i + 1) names ≡ take i names ++ item ∷ [] = ap (λ n. take n names) (add-one i) ∙ take-suc names i item c.loop-name-test.true ∙ ap (λ x. take i names ++ x ∷ []) (sym c.name-item.is) in
    sums_more c.args.entry.now names i item c.as_str.result.now c.loop-name.sum c.in-Number.size c.saturating_add-sum.result (v c.args.folder.now) (v c.loop-name.folder) (v c.name_size.new.folder) grown c.as_str.ensures c.saturating_add-sum.ensures c.loop-name.invariant c.in-Number.ensures

pub returns-in_default : goal.returns-in_default
returns-in_default g c =
    let v = g.F.Folder.view in
    sums_stop c.args.entry.now c.args.names.now c.name_size.result (HadBytes c.args.entry.now (take c.loop-name.name-index c.args.names.now)) (HadSize (c.args.entry.now ++ c.as_str.result.now ∷ [])) c.loop-name.sum (v c.args.folder.now) (v c.loop-name.folder) (v c.name_size.new.folder) c.in_default.not-Number c.loop-name.invariant c.name_size.ensures

pub returns : goal.returns
returns g c =
    let v = g.F.Folder.view in
    subst (λ (ns : List Name). Measures (HadBytes c.args.entry.now ns) (measure.Number c.loop-name.sum) (v c.args.folder.now) (v c.loop-name.folder)) (take_all c.loop-name.name-index c.args.names.now c.loop-name-test.false) c.loop-name.invariant
