use Rattle.std.proofs.Common.{◌-◌, take, drop, subst, sym, arith, length-take}
use Rattle.jl_folder.specs.Calls.{IsMade}
use Rattle.jl_store.proofs.Filling.{going_start, going_on, going_stops, going_goes, going_end, going_alone}
use Rattle.jl_store.proofs.files.append_all.Goals as goal

pub loop-at-init : goal.loop-at-init
loop-at-init g c = going_start (g.F.Folder.view c.args.folder.now) c.args.number.0 c.args.bytes.now

pub append-requires : goal.append-requires
append-requires g c = subst (λ o. IsMade o c.args.number.0) (sym c.loop-at.invariant.frame.opens) c.requires

pub loop-at-preserved : goal.loop-at-preserved
loop-at-preserved g c =
    going_on (g.F.Folder.view c.args.folder.now) (g.F.Folder.view c.loop-at.folder) c.args.number.0 c.args.bytes.now c.loop-at.at c.loop-at.invariant
    (g.F.Folder.view c.append.new.self) (c.min-end.result - c.loop-at.at) c.in-Wrote.count (omega (arith, c.min-end.ensures)) c.in-Wrote.ensures.some.0 c.in-Wrote.ensures.frame (λ failed. cc) c.in-Wrote.ensures.call

pub returns-in-Failed-clause-called : goal.returns-in-Failed-clause-called
returns-in-Failed-clause-called g c =
    going_stops (g.F.Folder.view c.args.folder.now) (g.F.Folder.view c.loop-at.folder) c.args.number.0 c.args.bytes.now c.loop-at.at c.loop-at.invariant
    (g.F.Folder.view c.append.new.self) (take (c.min-end.result - c.loop-at.at) (drop c.loop-at.at c.args.bytes.now)) c.append.ensures.frame.token (omega (arith, c.min-end.ensures, length-take (c.min-end.result - c.loop-at.at) (drop c.loop-at.at c.args.bytes.now))) c.append.result c.append.ensures.call

pub returns-in-Failed-clause-goes : goal.returns-in-Failed-clause-goes
returns-in-Failed-clause-goes g c =
    going_goes (g.F.Folder.view c.args.folder.now) (g.F.Folder.view c.loop-at.folder) c.args.number.0 c.args.bytes.now c.loop-at.at c.loop-at.invariant
    (g.F.Folder.view c.append.new.self) (take (c.min-end.result - c.loop-at.at) (drop c.loop-at.at c.args.bytes.now)) c.append.ensures.frame.token c.append.result c.append.ensures.call

pub returns-in-NoMemory-clause-called : goal.returns-in-NoMemory-clause-called
returns-in-NoMemory-clause-called g c =
    going_stops (g.F.Folder.view c.args.folder.now) (g.F.Folder.view c.loop-at.folder) c.args.number.0 c.args.bytes.now c.loop-at.at c.loop-at.invariant
    (g.F.Folder.view c.append.new.self) (take (c.min-end.result - c.loop-at.at) (drop c.loop-at.at c.args.bytes.now)) c.append.ensures.frame.token (omega (arith, c.min-end.ensures, length-take (c.min-end.result - c.loop-at.at) (drop c.loop-at.at c.args.bytes.now))) c.append.result c.append.ensures.call

pub returns-in-NoMemory-clause-goes : goal.returns-in-NoMemory-clause-goes
returns-in-NoMemory-clause-goes g c =
    going_goes (g.F.Folder.view c.args.folder.now) (g.F.Folder.view c.loop-at.folder) c.args.number.0 c.args.bytes.now c.loop-at.at c.loop-at.invariant
    (g.F.Folder.view c.append.new.self) (take (c.min-end.result - c.loop-at.at) (drop c.loop-at.at c.args.bytes.now)) c.append.ensures.frame.token c.append.result c.append.ensures.call

pub returns-clause-goes : goal.returns-clause-goes
returns-clause-goes g c = c.loop-at.invariant.goes

pub returns-clause-called : goal.returns-clause-called
returns-clause-called g c = going_end (g.F.Folder.view c.args.folder.now) (g.F.Folder.view c.loop-at.folder) c.args.number.0 c.args.bytes.now c.loop-at.at c.loop-at.invariant c.loop-at-test.false

pub returns-clause-alone : goal.returns-clause-alone
returns-clause-alone g c = going_alone (g.F.Folder.view c.args.folder.now) (g.F.Folder.view c.loop-at.folder) c.args.number.0 c.args.bytes.now c.loop-at.at c.loop-at.invariant c.loop-at-test.false
