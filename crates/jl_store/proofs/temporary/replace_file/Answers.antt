use Rattle.std.proofs.Common.{subst}
use Rattle.jl_folder.specs.Calls.{Call}
use Rattle.jl_folder.specs.Views.{state}
use Rattle.jl_protocol.specs.Tidy.{IsTidy}
use Rattle.jl_store.specs.Kinds.{IsOnName}
use Rattle.jl_store.specs.Publishing.{MakesFile, TempLeft}
use Rattle.jl_rely.proofs.Composed.{goes_call}
use Rattle.jl_rely.proofs.Since.{goes_then}
use Rattle.jl_rely.proofs.Alone.{lone_parts}
use Rattle.jl_store.proofs.Drafts.{history_state, temp_from, take_alone, make_alone}
use Rattle.jl_store.proofs.Making.{take_called, make_called, make_named, calls_then, calls_end, missed_again}
use Rattle.jl_store.proofs.temporary.replace_file.Goals as goal

pub returns-in-Away-clause-called : goal.returns-in-Away-clause-called
returns-in-Away-clause-called g c t =
    let temp = c.args.temp.now in
    let old = g.F.Folder.view c.args.folder.now in
    let mid = g.F.Folder.view c.take_away.new.folder in
    let new = g.F.Folder.view c.make_file.new.folder in
    calls_then temp (IsOnName temp) IsTidy IsTidy (λ root. TempLeft temp c.make_file.result new) old mid new c.take_away.ensures.frame.token
    (take_called temp old mid c.take_away.ensures.frame.token c.take_away.result (c.take_away.ensures.call t))
    (make_called temp mid new c.make_file.ensures.frame.token c.make_file.result (c.make_file.ensures.call (c.take_away.ensures.frame.told t)))

pub returns-in-Away-clause-named : goal.returns-in-Away-clause-named
returns-in-Away-clause-named g c t =
    make_named c.args.temp.now (g.F.Folder.view c.take_away.new.folder) (g.F.Folder.view c.make_file.new.folder) c.make_file.result (c.make_file.ensures.call (c.take_away.ensures.frame.told t))

pub returns-in-Away-clause-skipped : goal.returns-in-Away-clause-skipped
returns-in-Away-clause-skipped g c t skipped =
    let temp = c.args.temp.now in
    let mid = g.F.Folder.view c.take_away.new.folder in
    let new = g.F.Folder.view c.make_file.new.folder in
    missed_again temp (g.F.Folder.view c.args.folder.now) mid new c.take_away.ensures.frame.token c.make_file.ensures.frame.token (c.in-Away.ensures.call t)
    (subst (λ r. Call mid new (MakesFile temp new.opens r)) skipped (c.make_file.ensures.call (c.take_away.ensures.frame.told t)))

pub returns-in-Away-clause-alone : goal.returns-in-Away-clause-alone
returns-in-Away-clause-alone g c t lone =
    let temp = c.args.temp.now in
    let old = g.F.Folder.view c.args.folder.now in
    let mid = g.F.Folder.view c.take_away.new.folder in
    let new = g.F.Folder.view c.make_file.new.folder in
    let told = c.take_away.ensures.frame.told t in
    let take = c.in-Away.ensures.call t in
    let make = c.make_file.ensures.call told in
    let parts = lone_parts old mid new (goes_call old mid _ c.take_away.ensures.frame.token take) (goes_call mid new _ c.make_file.ensures.frame.token make) lone in
    temp_from temp c.make_file.result (state old) (state mid) new (take_alone temp old mid take parts.0)
    (make_alone temp mid new c.make_file.result c.make_file.ensures.frame.token (history_state mid (g.met.F.Folder.lawful c.take_away.new.folder told)) make parts.1)

pub returns-in-Away-clause-goes : goal.returns-in-Away-clause-goes
returns-in-Away-clause-goes g c t =
    let old = g.F.Folder.view c.args.folder.now in
    let mid = g.F.Folder.view c.take_away.new.folder in
    let new = g.F.Folder.view c.make_file.new.folder in
    goes_then old mid new (goes_call old mid _ c.take_away.ensures.frame.token (c.take_away.ensures.call t))
    (goes_call mid new _ c.make_file.ensures.frame.token (c.make_file.ensures.call (c.take_away.ensures.frame.told t)))

pub returns-in-Fault-clause-called : goal.returns-in-Fault-clause-called
returns-in-Fault-clause-called g c t =
    let temp = c.args.temp.now in
    let old = g.F.Folder.view c.args.folder.now in
    let new = g.F.Folder.view c.take_away.new.folder in
    calls_end temp (IsOnName temp) IsTidy IsTidy old new (take_called temp old new c.take_away.ensures.frame.token c.take_away.result (c.take_away.ensures.call t))

pub returns-in-Fault-clause-goes : goal.returns-in-Fault-clause-goes
returns-in-Fault-clause-goes g c t = goes_call _ _ _ c.take_away.ensures.frame.token (c.take_away.ensures.call t)

pub returns-in-NoMemory-clause-called : goal.returns-in-NoMemory-clause-called
returns-in-NoMemory-clause-called g c t =
    let temp = c.args.temp.now in
    let old = g.F.Folder.view c.args.folder.now in
    let new = g.F.Folder.view c.take_away.new.folder in
    calls_end temp (IsOnName temp) IsTidy IsTidy old new (take_called temp old new c.take_away.ensures.frame.token c.take_away.result (c.take_away.ensures.call t))

pub returns-in-NoMemory-clause-goes : goal.returns-in-NoMemory-clause-goes
returns-in-NoMemory-clause-goes g c t = goes_call _ _ _ c.take_away.ensures.frame.token (c.take_away.ensures.call t)
