use Rattle.std.proofs.Common.{[], subst}
use Rattle.jl_folder.proofs.Opens.{IsMade-new}
use Rattle.jl_rely.proofs.Composed.{retold}
use Rattle.jl_array.specs.declared.appending.Wrote.TheVariants as wrote
use Rattle.jl_array.specs.Dumps.{dump_text}
use Rattle.jl_array.specs.Dumping.{Dumping, IsWritten, Written}
use Rattle.jl_folder.specs.declared.folder.Created.TheVariants as created
use Rattle.jl_array.proofs.HeldLemmas.{filling_once, filling_on}
use Rattle.jl_array.proofs.DumpLemmas.{made_stops, dump_done, dump_stops}
use Rattle.jl_array.proofs.dumping.dump.Goals as goal

-- the file was made, and all was written
pub returns-in-All-clause-dumps : goal.returns-in-All-clause-dumps
returns-in-All-clause-dumps g c = λ t.
    let old = g.F.Folder.view c.args.folder.now in
    let mid = g.F.Folder.view c.create.new.self in
    let new = g.F.Folder.view c.write_file.new.folder in
    let path = c.args.path.now in
    let made = IsMade-new c.in-Made.number.0 old.opens mid.opens c.in-Made.ensures.opens in
    dump_done path c.args.numbers.now old mid new c.in-Made.number.0 made.0
    c.create.ensures.frame.token (g.met.F.Folder.lawful c.args.folder.now t) made.1
    (c.in-Made.ensures.call t)
    (subst (λ ns. Dumping path mid.token (IsWritten mid.token path made.0.node [])
    (Written mid.token path made.0.node [] (dump_text ns) wrote.All) mid new) c.as_slice.ensures
    (c.in-All.ensures.called (c.create.ensures.frame.told t) made.0 made.1 path []))

-- or a front
pub returns-in-Fault-clause-dumps : goal.returns-in-Fault-clause-dumps
returns-in-Fault-clause-dumps g c = λ t.
    let old = g.F.Folder.view c.args.folder.now in
    let mid = g.F.Folder.view c.create.new.self in
    let new = g.F.Folder.view c.write_file.new.folder in
    let path = c.args.path.now in
    let made = IsMade-new c.in-Made.number.0 old.opens mid.opens c.in-Made.ensures.opens in
    dump_stops path c.args.numbers.now old mid new c.in-Made.number.0 made.0
    c.create.ensures.frame.token (g.met.F.Folder.lawful c.args.folder.now t) made.1
    (c.in-Made.ensures.call t)
    (subst (λ ns. Dumping path mid.token (IsWritten mid.token path made.0.node [])
    (Written mid.token path made.0.node [] (dump_text ns) wrote.Fault) mid new) c.as_slice.ensures
    (c.in-Fault.ensures.called (c.create.ensures.frame.told t) made.0 made.1 path []))

-- the same where memory was wanting
pub returns-in-NoMemory-write_file-clause-dumps : goal.returns-in-NoMemory-write_file-clause-dumps
returns-in-NoMemory-write_file-clause-dumps g c = λ t.
    let old = g.F.Folder.view c.args.folder.now in
    let mid = g.F.Folder.view c.create.new.self in
    let new = g.F.Folder.view c.write_file.new.folder in
    let path = c.args.path.now in
    let made = IsMade-new c.in-Made.number.0 old.opens mid.opens c.in-Made.ensures.opens in
    dump_stops path c.args.numbers.now old mid new c.in-Made.number.0 made.0
    c.create.ensures.frame.token (g.met.F.Folder.lawful c.args.folder.now t) made.1
    (c.in-Made.ensures.call t)
    (subst (λ ns. Dumping path mid.token (IsWritten mid.token path made.0.node [])
    (Written mid.token path made.0.node [] (dump_text ns) wrote.NoMemory) mid new)
    c.as_slice.ensures
    (c.in-NoMemory-write_file.ensures.called (c.create.ensures.frame.told t) made.0 made.1 path []))

-- the file was made or not
pub returns-in-Failed-clause-dumps : goal.returns-in-Failed-clause-dumps
returns-in-Failed-clause-dumps g c = λ t.
    let old = g.F.Folder.view c.args.folder.now in
    let mid = g.F.Folder.view c.create.new.self in
    made_stops c.args.path.now old mid c.create.ensures.frame.token c.args.numbers.now
    (g.met.F.Folder.lawful c.args.folder.now t)
    (retold old mid _ _ (λ s own h. h) (c.in-Failed.ensures.call t))

-- the same where memory was wanting
pub returns-in-NoMemory-clause-dumps : goal.returns-in-NoMemory-clause-dumps
returns-in-NoMemory-clause-dumps g c = λ t.
    let old = g.F.Folder.view c.args.folder.now in
    let mid = g.F.Folder.view c.create.new.self in
    made_stops c.args.path.now old mid c.create.ensures.frame.token c.args.numbers.now
    (g.met.F.Folder.lawful c.args.folder.now t)
    (retold old mid _ _ (λ s own h. h) (c.in-NoMemory.ensures.call t))

-- ---- lawful for every root outside of which the path lies

-- the file was made, and then written to
pub returns-in-All-clause-owned : goal.returns-in-All-clause-owned
returns-in-All-clause-owned g c = λ t.
    let old = g.F.Folder.view c.args.folder.now in
    let mid = g.F.Folder.view c.create.new.self in
    let made = IsMade-new c.in-Made.number.0 old.opens mid.opens c.in-Made.ensures.opens in
    filling_on c.args.path.now old mid c.create.ensures.frame.token c.in-Made.number.0
    (g.F.Folder.view c.write_file.new.folder) (g.met.F.Folder.lawful c.args.folder.now t) t
    c.create.ensures.frame.told made.0 made.1 (c.in-Made.ensures.call t)
    c.write_file.ensures.holds

-- as far as it went
pub returns-in-Fault-clause-owned : goal.returns-in-Fault-clause-owned
returns-in-Fault-clause-owned g c = λ t.
    let old = g.F.Folder.view c.args.folder.now in
    let mid = g.F.Folder.view c.create.new.self in
    let made = IsMade-new c.in-Made.number.0 old.opens mid.opens c.in-Made.ensures.opens in
    filling_on c.args.path.now old mid c.create.ensures.frame.token c.in-Made.number.0
    (g.F.Folder.view c.write_file.new.folder) (g.met.F.Folder.lawful c.args.folder.now t) t
    c.create.ensures.frame.told made.0 made.1 (c.in-Made.ensures.call t)
    c.write_file.ensures.holds

-- as far as memory went
pub returns-in-NoMemory-write_file-clause-owned : goal.returns-in-NoMemory-write_file-clause-owned
returns-in-NoMemory-write_file-clause-owned g c = λ t.
    let old = g.F.Folder.view c.args.folder.now in
    let mid = g.F.Folder.view c.create.new.self in
    let made = IsMade-new c.in-Made.number.0 old.opens mid.opens c.in-Made.ensures.opens in
    filling_on c.args.path.now old mid c.create.ensures.frame.token c.in-Made.number.0
    (g.F.Folder.view c.write_file.new.folder) (g.met.F.Folder.lawful c.args.folder.now t) t
    c.create.ensures.frame.told made.0 made.1 (c.in-Made.ensures.call t)
    c.write_file.ensures.holds

-- it was made, or not
pub returns-in-Exists-clause-owned : goal.returns-in-Exists-clause-owned
returns-in-Exists-clause-owned g c = λ t.
    filling_once c.args.path.now (g.F.Folder.view c.args.folder.now)
    (g.F.Folder.view c.create.new.self) c.create.ensures.frame.token created.Exists
    (g.met.F.Folder.lawful c.args.folder.now t) (c.in-Exists.ensures.call t)

-- no parent
pub returns-in-NoParent-clause-owned : goal.returns-in-NoParent-clause-owned
returns-in-NoParent-clause-owned g c = λ t.
    filling_once c.args.path.now (g.F.Folder.view c.args.folder.now)
    (g.F.Folder.view c.create.new.self) c.create.ensures.frame.token created.NoParent
    (g.met.F.Folder.lawful c.args.folder.now t) (c.in-NoParent.ensures.call t)

-- a fault
pub returns-in-Failed-clause-owned : goal.returns-in-Failed-clause-owned
returns-in-Failed-clause-owned g c = λ t.
    filling_once c.args.path.now (g.F.Folder.view c.args.folder.now)
    (g.F.Folder.view c.create.new.self) c.create.ensures.frame.token created.Failed
    (g.met.F.Folder.lawful c.args.folder.now t) (c.in-Failed.ensures.call t)

-- no memory
pub returns-in-NoMemory-clause-owned : goal.returns-in-NoMemory-clause-owned
returns-in-NoMemory-clause-owned g c = λ t.
    filling_once c.args.path.now (g.F.Folder.view c.args.folder.now)
    (g.F.Folder.view c.create.new.self) c.create.ensures.frame.token created.NoMemory
    (g.met.F.Folder.lawful c.args.folder.now t) (c.in-NoMemory.ensures.call t)
