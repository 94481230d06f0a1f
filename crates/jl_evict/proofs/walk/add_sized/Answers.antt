use Rattle.std.proofs.Common.{◌++◌, ◌∷◌, [], Err, refl}
use Rattle.jl_entry.specs.Names.{entry_part}
use Rattle.jl_entry.specs.declared.names.EntryFile.TheVariants.{Access}
use Rattle.jl_clear.specs.declared.stop.Stop.TheVariants as stop
use Rattle.jl_evict.specs.declared.measure.Measure.TheVariants as measure
use Rattle.jl_evict.specs.Items.{HadAccess}
use Rattle.jl_evict.specs.Walks.{HasSized}
use Rattle.jl_evict.proofs.WalkLemmas.{one_pushed, one_failed}
use Rattle.jl_evict.proofs.walk.add_sized.Goals as goal

pub returns-in-Number : goal.returns-in-Number
returns-in-Number g c =
    let v = g.F.Folder.view in
    one_pushed c.args.place.now c.args.bytes c.in-Number.access c.push_item.result c.args.items.now.items c.push_item.new.items.items (v c.args.folder.now) (v c.entry_access.new.folder) c.push_item.ensures c.in-Number.ensures

pub returns-in-Fault : goal.returns-in-Fault
returns-in-Fault g c =
    let v = g.F.Folder.view in
    one_failed c.args.place.now (HasSized c.args.place.now c.args.bytes) (HadAccess (c.args.place.now.folder ++ entry_part Access ∷ [])) measure.Fault (Err stop.Fault) c.args.items.now.items (v c.args.folder.now) (v c.entry_access.new.folder) (λ e. refl) (λ e. refl) (λ e. cc) c.in-Fault.ensures

pub returns-in-NoMemory : goal.returns-in-NoMemory
returns-in-NoMemory g c =
    let v = g.F.Folder.view in
    one_failed c.args.place.now (HasSized c.args.place.now c.args.bytes) (HadAccess (c.args.place.now.folder ++ entry_part Access ∷ [])) measure.NoMemory (Err stop.NoMemory) c.args.items.now.items (v c.args.folder.now) (v c.entry_access.new.folder) (λ e. cc) (λ e. cc) (λ e. cc) c.in-NoMemory.ensures
