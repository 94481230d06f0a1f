use Rattle.std.proofs.Common.{Err, refl}
use Rattle.jl_clear.specs.declared.stop.Stop.TheVariants as stop
use Rattle.jl_evict.specs.declared.measure.Measure.TheVariants as measure
use Rattle.jl_evict.specs.Items.{HadBytes}
use Rattle.jl_evict.specs.Walks.{HasListed}
use Rattle.jl_evict.proofs.WalkLemmas.{one_listed, one_failed}
use Rattle.jl_evict.proofs.walk.add_listed.Goals as goal

pub returns-in-Number : goal.returns-in-Number
returns-in-Number g c =
    let v = g.F.Folder.view in
    one_listed c.args.place.now c.args.names.now c.in-Number.bytes c.add_sized.result c.args.items.now.items c.add_sized.new.items.items (v c.args.folder.now) (v c.entry_bytes.new.folder) (v c.add_sized.new.folder) c.in-Number.ensures c.add_sized.ensures

pub returns-in-Fault : goal.returns-in-Fault
returns-in-Fault g c =
    let v = g.F.Folder.view in
    one_failed c.args.place.now (HasListed c.args.place.now c.args.names.now) (HadBytes c.args.place.now.folder c.args.names.now) measure.Fault (Err stop.Fault) c.args.items.now.items (v c.args.folder.now) (v c.entry_bytes.new.folder) (λ e. refl) (λ e. refl) (λ e. cc) c.in-Fault.ensures

pub returns-in-NoMemory : goal.returns-in-NoMemory
returns-in-NoMemory g c =
    let v = g.F.Folder.view in
    one_failed c.args.place.now (HasListed c.args.place.now c.args.names.now) (HadBytes c.args.place.now.folder c.args.names.now) measure.NoMemory (Err stop.NoMemory) c.args.items.now.items (v c.args.folder.now) (v c.entry_bytes.new.folder) (λ e. cc) (λ e. cc) (λ e. cc) c.in-NoMemory.ensures
