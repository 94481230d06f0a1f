use Rattle.std.proofs.Common.{◌++◌}
use Rattle.jl_rely.proofs.Since.{goes_then}
use Rattle.jl_rely.proofs.Alone.{lone_parts}
use Rattle.jl_rely.proofs.Composed.{goes_call}
use Rattle.jl_protocol.specs.Owned.{IsOwnFile}
use Rattle.jl_store.proofs.Ending.{closed_called, closed_alone}
use Rattle.jl_store.proofs.files.fill.Goals as goal

pub returns-clause-goes : goal.returns-clause-goes
returns-clause-goes g c t =
    let old = g.F.Folder.view c.args.folder.now in
    let mid = g.F.Folder.view c.append_all-wrote.new.folder in
    let new = g.F.Folder.view c.close.new.self in
    goes_then old mid new (c.append_all-wrote.ensures.goes t) (goes_call mid new _ c.close.ensures.frame.token (c.close.ensures.call (c.append_all-wrote.ensures.frame.told t)))

pub returns-clause-called : goal.returns-clause-called
returns-clause-called g c t file is temp start =
    let old = g.F.Folder.view c.args.folder.now in
    closed_called temp file.node (start ++ c.args.bytes.now) c.append_all-wrote.result old (g.F.Folder.view c.append_all-wrote.new.folder) (g.F.Folder.view c.close.new.self)
    c.append_all-wrote.ensures.frame.token c.close.ensures.frame.token (λ root. IsOwnFile old.token temp file.node start)
    (c.append_all-wrote.ensures.called t file is temp start) (c.close.ensures.call (c.append_all-wrote.ensures.frame.told t))

pub returns-clause-alone : goal.returns-clause-alone
returns-clause-alone g c t file is temp start before lone draft =
    let old = g.F.Folder.view c.args.folder.now in
    let mid = g.F.Folder.view c.append_all-wrote.new.folder in
    let new = g.F.Folder.view c.close.new.self in
    let close = c.close.ensures.call (c.append_all-wrote.ensures.frame.told t) in
    let parts = lone_parts old mid new (c.append_all-wrote.ensures.goes t) (goes_call mid new _ c.close.ensures.frame.token close) lone in
    closed_alone old.token temp file.node (start ++ c.args.bytes.now) c.append_all-wrote.result before mid new close parts.1 (c.append_all-wrote.ensures.alone t file is temp start before parts.0 draft)
