use Rattle.std.proofs.Common.{◌≡◌, ◌++◌, ℕ, List, ap, subst}
use Rattle.jl_folder.proofs.Frames.{answers_as}
use Rattle.jl_array.specs.declared.appending.Wrote.TheVariants as wrote
use Rattle.jl_array.specs.Dumps.{numbers_bytes, dump_text}
use Rattle.jl_array.proofs.AppendLemmas.{IsStopped, stopped_longer}
use Rattle.jl_array.proofs.DumpLemmas.{IsWriting, writing_then}
use Rattle.jl_array.proofs.HeldLemmas.{holding_then}
use Rattle.jl_array.proofs.dumping.write_text.Goals as goal

-- the head and the numbers were appended
pub returns-in-All-clause-called : goal.returns-in-All-clause-called
unfolding dump_text
returns-in-All-clause-called g c =
    let old = g.F.Folder.view c.args.folder.now in
    let mid = g.F.Folder.view c.append_bytes.new.folder in
    let new = g.F.Folder.view c.append_numbers.new.folder in
    let ns = c.args.numbers.now in
    let text : c.head_of-head.result ++ numbers_bytes ns ≡ dump_text ns =
    ap (λ (l : List ℕ). l ++ numbers_bytes ns) c.head_of-head.ensures in
    subst (λ (l : List ℕ). IsWriting old new c.args.number.0 l c.append_numbers.result) text
    (writing_then old mid new c.args.number.0 c.head_of-head.result
    (numbers_bytes ns) c.append_numbers.result
    (answers_as old mid c.in-All.ensures.frame (λ bad. absurd bad)
    (λ (failed : wrote.All ≡ wrote.Fault). cc)) c.in-All.ensures.called
    c.append_numbers.ensures.called)

-- a front of the head was
pub returns-in-Fault-clause-called : goal.returns-in-Fault-clause-called
unfolding dump_text
returns-in-Fault-clause-called g c =
    let old = g.F.Folder.view c.args.folder.now in
    let mid = g.F.Folder.view c.append_bytes.new.folder in
    let ns = c.args.numbers.now in
    let text : c.head_of-head.result ++ numbers_bytes ns ≡ dump_text ns =
    ap (λ (l : List ℕ). l ++ numbers_bytes ns) c.head_of-head.ensures in
    subst (IsStopped old mid c.args.number.0) text
    (stopped_longer old mid c.args.number.0 c.head_of-head.result
    (numbers_bytes ns) c.in-Fault.ensures.called)

-- the same where memory was wanting
pub returns-in-NoMemory-clause-called : goal.returns-in-NoMemory-clause-called
unfolding dump_text
returns-in-NoMemory-clause-called g c =
    let old = g.F.Folder.view c.args.folder.now in
    let mid = g.F.Folder.view c.append_bytes.new.folder in
    let ns = c.args.numbers.now in
    let text : c.head_of-head.result ++ numbers_bytes ns ≡ dump_text ns =
    ap (λ (l : List ℕ). l ++ numbers_bytes ns) c.head_of-head.ensures in
    subst (IsStopped old mid c.args.number.0) text
    (stopped_longer old mid c.args.number.0 c.head_of-head.result
    (numbers_bytes ns) c.in-NoMemory.ensures.called)

-- whatever came of it, the file stays held
pub returns-in-All-clause-holds : goal.returns-in-All-clause-holds
returns-in-All-clause-holds g c =
    holding_then (g.F.Folder.view c.args.folder.now) (g.F.Folder.view c.append_bytes.new.folder)
    (g.F.Folder.view c.append_numbers.new.folder) c.args.number.0 c.append_bytes.ensures.frame
    c.append_bytes.ensures.holds c.append_numbers.ensures.holds
