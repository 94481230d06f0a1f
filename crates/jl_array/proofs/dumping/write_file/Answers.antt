use Rattle.jl_array.specs.Dumps.{dump_text}
use Rattle.jl_array.proofs.HeldLemmas.{holding_closed}
use Rattle.jl_array.proofs.DumpLemmas.{writing_closed}
use Rattle.jl_array.proofs.Turned.{turned_closed}
use Rattle.jl_array.proofs.dumping.write_file.Goals as goal

-- the closing changes nothing
pub returns-clause-called : goal.returns-clause-called
returns-clause-called g c =
    let old = g.F.Folder.view c.args.folder.now in
    let mid = g.F.Folder.view c.write_text-wrote.new.folder in
    let new = g.F.Folder.view c.close.new.self in
    writing_closed old mid new c.args.number.0
    (dump_text c.args.numbers.now) c.write_text-wrote.result c.write_text-wrote.ensures.frame.token
    c.close.ensures.frame.token
    (λ t. c.close.ensures.call (c.write_text-wrote.ensures.frame.told t))
    c.write_text-wrote.ensures.called

-- and never fails
pub returns-clause-frame : goal.returns-clause-frame
returns-clause-frame g c =
    turned_closed (g.F.Folder.view c.args.folder.now)
    (g.F.Folder.view c.write_text-wrote.new.folder)
    (g.F.Folder.view c.close.new.self) c.write_text-wrote.ensures.frame c.close.ensures.frame

-- and leaves the file held
pub returns-clause-holds : goal.returns-clause-holds
returns-clause-holds g c =
    holding_closed (g.F.Folder.view c.args.folder.now)
    (g.F.Folder.view c.write_text-wrote.new.folder) (g.F.Folder.view c.close.new.self)
    c.args.number.0 c.write_text-wrote.ensures.frame.token c.close.ensures.frame.token
    (λ t. c.close.ensures.call (c.write_text-wrote.ensures.frame.told t))
    c.write_text-wrote.ensures.holds
