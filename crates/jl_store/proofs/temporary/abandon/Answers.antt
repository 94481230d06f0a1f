use Rattle.jl_rely.proofs.Composed.{goes_call}
use Rattle.jl_folder.proofs.Frames.{answers_keeps}
use Rattle.jl_store.proofs.Making.{take_anywhere}
use Rattle.jl_store.proofs.temporary.abandon.Goals as goal

pub returns-clause-called : goal.returns-clause-called
returns-clause-called g c t =
    take_anywhere c.args.temp.now (g.F.Folder.view c.args.folder.now) (g.F.Folder.view c.take_away.new.folder) c.take_away.ensures.frame.token c.take_away.result (c.take_away.ensures.call t)

pub returns-clause-goes : goal.returns-clause-goes
returns-clause-goes g c t = goes_call _ _ _ c.take_away.ensures.frame.token (c.take_away.ensures.call t)

pub returns-clause-frame : goal.returns-clause-frame
returns-clause-frame g c = answers_keeps (g.F.Folder.view c.args.folder.now) (g.F.Folder.view c.take_away.new.folder) c.take_away.ensures.frame
