use Rattle.std.proofs.Common.{List, take, subst, sym}
use Rattle.jl_rely.specs.Claims.{Anywhere}
use Rattle.jl_clear.specs.Clearing.{Clears}
use Rattle.jl_evict.specs.declared.item.Item.{Item}
use Rattle.jl_evict.specs.Reducing.{ArePaths, Chosen, clear_of_reduced, IsReportOf}
use Rattle.jl_evict.proofs.ReduceLemmas.{paths_chosen}
use Rattle.jl_evict.proofs.reducing.reduce.Goals as goal

pub report-requires : goal.report-requires
report-requires g c =
    let k = c.choose-count.result in
    subst (λ (xs : List Item). ArePaths (take k xs)) (sym c.as_slice.ensures.value) (paths_chosen c.args.items.items c.choose-count.new.items.items k c.choose-count.ensures.permutation c.requires)

pub returns : goal.returns
returns g c =
    let k = c.choose-count.result in
    let r = c.report.result in
    let v = g.F.Folder.view in
    let root = c.args.root.now in
    record {
      items = c.choose-count.new.items.items;
      same = c.choose-count.ensures.permutation;
      count = k;
      choice = record { order = c.choose-count.ensures.order; shortest = c.choose-count.ensures.count };
      paths = paths_chosen c.args.items.items c.choose-count.new.items.items k c.choose-count.ensures.permutation c.requires;
      reports = subst (λ (xs : List Item). IsReportOf (take k xs) r) c.as_slice.ensures.value c.report.ensures.reports;
      clears = subst (λ (xs : List Item). Clears root Anywhere (Chosen root (take k xs)) (Chosen root (take k xs)) (Chosen root (take k xs)) (clear_of_reduced r) (v c.args.folder.now) (v c.report.new.folder)) c.as_slice.ensures.value c.report.ensures.clears;
    }
