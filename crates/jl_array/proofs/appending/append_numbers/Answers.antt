use Rattle.std.proofs.Common.{◌≡◌, ◌++◌, ℕ, List, [], take, drop, take_all, arith, ap, subst, sym}
use Rattle.std.proofs.Common.{◌∙◌}
use Rattle.jl_folder.specs.Calls.{IsMade}
use Rattle.jl_folder.proofs.Frames.{answers_none, answers_next}
use Rattle.jl_array.specs.Dumps.{numbers_bytes}
use Rattle.jl_array.proofs.Numerals.{numbers_none}
use Rattle.jl_array.proofs.AppendLemmas.{IsStopped, added_none, added_as, added_then, added_stops}
use Rattle.jl_array.proofs.AppendLemmas.{stopped_longer}
use Rattle.jl_array.proofs.HeldLemmas.{holding_none, holding_then}
use Rattle.jl_array.proofs.DumpLemmas.{numbers_next, numbers_rest}
use Rattle.jl_array.proofs.appending.append_numbers.Goals as goal

-- no numbers were appended
pub loop-have-init : goal.loop-have-init
loop-have-init g c =
    let old = g.F.Folder.view c.args.folder.now in
    record {
      frame = answers_none old;
      within = omega arith;
      added =
          added_as old old c.args.number.0 [] (numbers_bytes []) (sym numbers_none)
          (added_none old c.args.number.0);
      held = holding_none old c.args.number.0;
    }

-- the number is open as before
pub append_bytes-requires : goal.append_bytes-requires
append_bytes-requires g c =
    subst (λ o. IsMade o c.args.number.0) (sym c.loop-have.invariant.frame.opens) c.requires.made

-- a block more was appended
pub loop-have-preserved : goal.loop-have-preserved
loop-have-preserved g c =
    let view = g.F.Folder.view in
    let old = view c.args.folder.now in
    let mid = view c.loop-have.folder in
    let new = view c.append_bytes.new.folder in
    let ns = c.args.numbers.now in
    let front = numbers_bytes (take c.loop-have.have ns) in
    record {
      frame =
          answers_next old mid new c.loop-have.invariant.frame (λ bad. bad) c.in-All.ensures.frame
          (λ bad. absurd bad) (λ failed. cc);
      within = omega (arith, c.min-end.ensures);
      added =
          added_as old new c.args.number.0 (front ++ c.put_numbers.new.buf)
          (numbers_bytes (take c.min-end.result ns))
          (ap (λ (l : List ℕ). front ++ l) c.put_numbers.ensures.bytes
          ∙ numbers_next c.loop-have.have c.min-end.result ns
          (omega (arith, c.min-end.ensures, c.loop-have-test.true)))
          (added_then old mid new c.args.number.0 front c.put_numbers.new.buf
          c.loop-have.invariant.frame c.loop-have.invariant.added c.in-All.ensures.called);
      held =
          holding_then old mid new c.args.number.0 c.loop-have.invariant.frame
          c.loop-have.invariant.held c.in-All.ensures.holds;
    }

-- the last block wasn't, or a front of it was
pub returns-in-Fault-clause-called : goal.returns-in-Fault-clause-called
returns-in-Fault-clause-called g c =
    let view = g.F.Folder.view in
    let old = view c.args.folder.now in
    let mid = view c.loop-have.folder in
    let new = view c.append_bytes.new.folder in
    let ns = c.args.numbers.now in
    let have = c.loop-have.have in
    let end = c.min-end.result in
    let front = numbers_bytes (take have ns) in
    let rest = numbers_bytes (drop end ns) in
    let whole : (front ++ c.put_numbers.new.buf) ++ rest ≡ numbers_bytes ns =
    ap (λ (l : List ℕ). l ++ rest) (ap (λ (l : List ℕ). front ++ l) c.put_numbers.ensures.bytes
    ∙ numbers_next have end ns (omega (arith, c.min-end.ensures, c.loop-have-test.true)))
    ∙ numbers_rest end ns in
    subst (IsStopped old new c.args.number.0) whole
    (stopped_longer old new c.args.number.0 (front ++ c.put_numbers.new.buf) rest
    (added_stops old mid new c.args.number.0 front c.put_numbers.new.buf c.loop-have.invariant.frame
    c.loop-have.invariant.added c.in-Fault.ensures.called))

-- the same where memory was wanting
pub returns-in-NoMemory-clause-called : goal.returns-in-NoMemory-clause-called
returns-in-NoMemory-clause-called g c =
    let view = g.F.Folder.view in
    let old = view c.args.folder.now in
    let mid = view c.loop-have.folder in
    let new = view c.append_bytes.new.folder in
    let ns = c.args.numbers.now in
    let have = c.loop-have.have in
    let end = c.min-end.result in
    let front = numbers_bytes (take have ns) in
    let rest = numbers_bytes (drop end ns) in
    let whole : (front ++ c.put_numbers.new.buf) ++ rest ≡ numbers_bytes ns =
    ap (λ (l : List ℕ). l ++ rest) (ap (λ (l : List ℕ). front ++ l) c.put_numbers.ensures.bytes
    ∙ numbers_next have end ns (omega (arith, c.min-end.ensures, c.loop-have-test.true)))
    ∙ numbers_rest end ns in
    subst (IsStopped old new c.args.number.0) whole
    (stopped_longer old new c.args.number.0 (front ++ c.put_numbers.new.buf) rest
    (added_stops old mid new c.args.number.0 front c.put_numbers.new.buf c.loop-have.invariant.frame
    c.loop-have.invariant.added c.in-NoMemory.ensures.called))

-- all were appended
pub returns-clause-called : goal.returns-clause-called
returns-clause-called g c =
    added_as (g.F.Folder.view c.args.folder.now)
    (g.F.Folder.view c.loop-have.folder) c.args.number.0
    (numbers_bytes (take c.loop-have.have c.args.numbers.now)) (numbers_bytes c.args.numbers.now)
    (ap numbers_bytes (take_all c.loop-have.have c.args.numbers.now c.loop-have-test.false))
    c.loop-have.invariant.added

-- whatever it answers, the file stays held
pub returns-in-Fault-clause-holds : goal.returns-in-Fault-clause-holds
returns-in-Fault-clause-holds g c =
    holding_then (g.F.Folder.view c.args.folder.now) (g.F.Folder.view c.loop-have.folder)
    (g.F.Folder.view c.append_bytes.new.folder) c.args.number.0 c.loop-have.invariant.frame
    c.loop-have.invariant.held c.append_bytes.ensures.holds

-- where memory was wanting
pub returns-in-NoMemory-clause-holds : goal.returns-in-NoMemory-clause-holds
returns-in-NoMemory-clause-holds g c =
    holding_then (g.F.Folder.view c.args.folder.now) (g.F.Folder.view c.loop-have.folder)
    (g.F.Folder.view c.append_bytes.new.folder) c.args.number.0 c.loop-have.invariant.frame
    c.loop-have.invariant.held c.append_bytes.ensures.holds

-- and where all were appended
pub returns-clause-holds : goal.returns-clause-holds
returns-clause-holds g c = c.loop-have.invariant.held
