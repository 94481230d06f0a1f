use Rattle.std.proofs.Common.{◌-◌, arith, subst, sym}
use Rattle.jl_folder.specs.Calls.{IsMade}
use Rattle.jl_array.proofs.AppendLemmas.{appended_start, appended_on, appended_stops, appended_all}
use Rattle.jl_array.proofs.AppendLemmas.{appended_held}
use Rattle.jl_array.proofs.appending.append_bytes.Goals as goal

-- nothing was appended
pub loop-at-init : goal.loop-at-init
loop-at-init g c =
    appended_start (g.F.Folder.view c.args.folder.now) c.args.number.0 c.args.bytes.now

-- the number is open as before
pub append-requires : goal.append-requires
append-requires g c =
    subst (λ o. IsMade o c.args.number.0) (sym c.loop-at.invariant.frame.opens) c.requires

-- a piece more was appended
pub loop-at-preserved : goal.loop-at-preserved
loop-at-preserved g c =
    appended_on (g.F.Folder.view c.args.folder.now) (g.F.Folder.view c.loop-at.folder)
    (g.F.Folder.view c.append.new.self) c.args.number.0 c.args.bytes.now c.loop-at.at
    (c.min-end.result - c.loop-at.at) (omega (arith, c.min-end.ensures)) c.loop-at.invariant
    c.in-Wrote.count c.in-Wrote.ensures.some.0 c.in-Wrote.ensures.frame
    (λ failed. cc) c.in-Wrote.ensures.call

-- the last piece wasn't, or a front of it was
pub returns-in-Failed-clause-called : goal.returns-in-Failed-clause-called
returns-in-Failed-clause-called g c =
    appended_stops (g.F.Folder.view c.args.folder.now) (g.F.Folder.view c.loop-at.folder)
    (g.F.Folder.view c.append.new.self) c.args.number.0 c.args.bytes.now c.loop-at.at
    (c.min-end.result - c.loop-at.at) (omega (arith, c.min-end.ensures)) c.loop-at.invariant
    c.append.result c.append.ensures.frame.token c.append.ensures.call

-- the same where memory was wanting
pub returns-in-NoMemory-clause-called : goal.returns-in-NoMemory-clause-called
returns-in-NoMemory-clause-called g c =
    appended_stops (g.F.Folder.view c.args.folder.now) (g.F.Folder.view c.loop-at.folder)
    (g.F.Folder.view c.append.new.self) c.args.number.0 c.args.bytes.now c.loop-at.at
    (c.min-end.result - c.loop-at.at) (omega (arith, c.min-end.ensures)) c.loop-at.invariant
    c.append.result c.append.ensures.frame.token c.append.ensures.call

-- all were appended
pub returns-clause-called : goal.returns-clause-called
returns-clause-called g c =
    appended_all (g.F.Folder.view c.args.folder.now)
    (g.F.Folder.view c.loop-at.folder) c.args.number.0 c.args.bytes.now c.loop-at.at
    c.loop-at-test.false c.loop-at.invariant

-- whatever it answers, the file stays held
pub returns-in-Failed-clause-holds : goal.returns-in-Failed-clause-holds
returns-in-Failed-clause-holds g c =
    appended_held (g.F.Folder.view c.args.folder.now) (g.F.Folder.view c.loop-at.folder)
    (g.F.Folder.view c.append.new.self) c.args.number.0 c.args.bytes.now c.loop-at.at
    (c.min-end.result - c.loop-at.at) (omega (arith, c.min-end.ensures)) c.loop-at.invariant
    c.append.result c.append.ensures.frame.token c.append.ensures.call

-- where memory was wanting
pub returns-in-NoMemory-clause-holds : goal.returns-in-NoMemory-clause-holds
returns-in-NoMemory-clause-holds g c =
    appended_held (g.F.Folder.view c.args.folder.now) (g.F.Folder.view c.loop-at.folder)
    (g.F.Folder.view c.append.new.self) c.args.number.0 c.args.bytes.now c.loop-at.at
    (c.min-end.result - c.loop-at.at) (omega (arith, c.min-end.ensures)) c.loop-at.invariant
    c.append.result c.append.ensures.frame.token c.append.ensures.call

-- and where all were appended
pub returns-clause-holds : goal.returns-clause-holds
returns-clause-holds g c = c.loop-at.invariant.held
