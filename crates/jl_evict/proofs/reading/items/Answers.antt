use Rattle.std.proofs.Common.{subst}
use Rattle.std.specs.Prelude.{⊤}
use Rattle.jl_text.specs.Paths.{PathView}
use Rattle.jl_entry.specs.Names.{IsBelow, root_of}
use Rattle.jl_rely.proofs.Seen.{told_state}
use Rattle.jl_evict.specs.Walks.{Adds}
use Rattle.jl_evict.proofs.ReduceLemmas.{read_waits, read_seen, read_alone}
use Rattle.jl_evict.proofs.reading.items.Goals as goal

-- ---- the walk ended

pub returns-in-Ok-add_folders-clause-waits : goal.returns-in-Ok-add_folders-clause-waits
returns-in-Ok-add_folders-clause-waits g c =
    let root = root_of c.args.location.now in
    let old = g.F.Folder.view c.args.folder.now in
    let new = g.F.Folder.view c.add_folders.new.folder in
    let before = c.new-items.result.items in
    let after = c.add_folders.new.items.items in
    let r = c.add_folders.result in
    read_waits root r before after old new
    (subst (λ (p : PathView). Adds root ⊤ (IsBelow p) r before after old new) c.in-Ok.ensures.form (c.add_folders.ensures root c.in-Ok.ensures))

-- what it added was seen
pub returns-in-Ok-add_folders-clause-seen : goal.returns-in-Ok-add_folders-clause-seen
returns-in-Ok-add_folders-clause-seen g c = λ t.
    let root = root_of c.args.location.now in
    let old = g.F.Folder.view c.args.folder.now in
    let new = g.F.Folder.view c.add_folders.new.folder in
    let before = c.new-items.result.items in
    let after = c.add_folders.new.items.items in
    let r = c.add_folders.result in
    read_seen root r before after old new
    (subst (λ (p : PathView). Adds root ⊤ (IsBelow p) r before after old new) c.in-Ok.ensures.form (c.add_folders.ensures root c.in-Ok.ensures))
    c.new-items.ensures.items t c.in-Ok-add_folders.is (told_state old (g.met.F.Folder.lawful c.args.folder.now t))

-- and alone, it is what stands there
pub returns-in-Ok-add_folders-clause-alone : goal.returns-in-Ok-add_folders-clause-alone
returns-in-Ok-add_folders-clause-alone g c = λ t lone.
    let root = root_of c.args.location.now in
    let old = g.F.Folder.view c.args.folder.now in
    let new = g.F.Folder.view c.add_folders.new.folder in
    let before = c.new-items.result.items in
    let after = c.add_folders.new.items.items in
    let r = c.add_folders.result in
    read_alone root r before after old new
    (subst (λ (p : PathView). Adds root ⊤ (IsBelow p) r before after old new) c.in-Ok.ensures.form (c.add_folders.ensures root c.in-Ok.ensures))
    c.new-items.ensures.items t c.in-Ok-add_folders.is lone (told_state old (g.met.F.Folder.lawful c.args.folder.now t))

-- ---- the walk stopped

pub returns-in-Err-Fault-clause-waits : goal.returns-in-Err-Fault-clause-waits
returns-in-Err-Fault-clause-waits g c =
    let root = root_of c.args.location.now in
    let old = g.F.Folder.view c.args.folder.now in
    let new = g.F.Folder.view c.add_folders.new.folder in
    let before = c.new-items.result.items in
    let after = c.add_folders.new.items.items in
    let r = c.add_folders.result in
    read_waits root r before after old new
    (subst (λ (p : PathView). Adds root ⊤ (IsBelow p) r before after old new) c.in-Ok.ensures.form (c.add_folders.ensures root c.in-Ok.ensures))

pub returns-clause-waits : goal.returns-clause-waits
returns-clause-waits g c =
    let root = root_of c.args.location.now in
    let old = g.F.Folder.view c.args.folder.now in
    let new = g.F.Folder.view c.add_folders.new.folder in
    let before = c.new-items.result.items in
    let after = c.add_folders.new.items.items in
    let r = c.add_folders.result in
    read_waits root r before after old new
    (subst (λ (p : PathView). Adds root ⊤ (IsBelow p) r before after old new) c.in-Ok.ensures.form (c.add_folders.ensures root c.in-Ok.ensures))
