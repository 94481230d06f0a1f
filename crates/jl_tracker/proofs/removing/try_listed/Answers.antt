use Rattle.jl_tracker.specs.Stages.{folder_point}
use Rattle.jl_tracker.proofs.RemovalLemmas.{listed_try}
use Rattle.jl_tracker.proofs.removing.try_listed.Goals as goal

pub returns-clause-tries : goal.returns-clause-tries
returns-clause-tries g c = λ t.
    let view = g.F.Folder.view in
    listed_try c.args.path.now c.args.names.now c.try_folder.result (folder_point (view c.args.folder.now)) (folder_point (view c.try_names.new.folder)) (folder_point (view c.try_folder.new.folder))
    (c.in_ok-try_names.ensures.tries t)
    (c.try_folder.ensures.tries (c.try_names.ensures.frame.told t))
