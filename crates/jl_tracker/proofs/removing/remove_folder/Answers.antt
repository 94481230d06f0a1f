use Rattle.std.proofs.Common.{subst}
use Rattle.jl_tracker.specs.Stages.{folder_point}
use Rattle.jl_tracker.specs.Tries.{ListedTry}
use Rattle.jl_tracker.proofs.RemovalLemmas.{removes_try, waits_at}
use Rattle.jl_tracker.proofs.removing.remove_folder.Goals as goal

pub returns-in-Names-clause-tries : goal.returns-in-Names-clause-tries
returns-in-Names-clause-tries g c = λ t.
    let view = g.F.Folder.view in
    let a = view c.args.folder.now in
    let m = view c.list.new.self in
    let b = view c.try_listed.new.folder in
    removes_try c.args.path.now c.in-Names.names c.try_listed.result (folder_point a) (folder_point m) (folder_point b)
    (record { token = c.list.ensures.frame.token; steady = c.list.ensures.frame.faults.steady (λ fails. cc); waits = waits_at a m (c.list.ensures.waits t); lists = c.in-Names.ensures.names t })
    (subst (λ names. ListedTry c.args.path.now names c.try_listed.result (folder_point m) (folder_point b)) c.as_slice.ensures (c.try_listed.ensures.tries (c.list.ensures.frame.told t)))
