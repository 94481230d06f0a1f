use Rattle.std.proofs.Common.{◌≡◌, ◌+◌, ◌*◌, ◌-◌, ◌≤◌, ◌++◌, ℕ, List, [], length, take, drop}
use Rattle.std.proofs.Common.{take_all, take_at, take-add, refl, sym, ap, subst, ◌∙◌, arith}
use Rattle.std.proofs.Common.{length-take, length-drop}
use Rattle.jl_folder.proofs.Frames.{answers_none, answers_next}
use Rattle.jl_folder.proofs.ReadingLemmas.{waits_none, waits_trans}
use Rattle.jl_array.specs.Dumps.{numbers_bytes, AreSigned, HasPart}
use Rattle.jl_array.specs.Nodes.{OpenHas}
use Rattle.jl_array.specs.Answers.{ComparesBytes}
use Rattle.jl_array.proofs.Numerals.{numbers_none, numbers_size, signed_none, signed_append}
use Rattle.jl_array.proofs.NodeFacts.{has_node}
use Rattle.jl_array.proofs.Parts.{part_none}
use Rattle.jl_array.proofs.CompareLemmas.{compares_longer}
use Rattle.jl_array.proofs.DumpLemmas.{numbers_next, numbers_rest}
use Rattle.jl_array.proofs.comparing.compare_numbers.Goals as goal

-- no numbers were compared
pub loop-have-init : goal.loop-have-init
loop-have-init g c =
    let old = g.F.Folder.view c.args.folder.now in
    record {
      frame = answers_none old;
      waits = λ t. waits_none old old refl refl;
      within = omega arith;
      signed = signed_none;
      so_far = λ t.
          has_node old c.args.number.0 (HasPart 15 (numbers_bytes []))
          (g.met.F.Folder.lawful c.args.folder.now t) c.requires.is_open
          (λ bytes. subst (λ l. HasPart 15 l bytes) (sym numbers_none) (part_none 15 bytes));
    }

-- a reading makes no move
pub returns-in_default-clause-waits : goal.returns-in_default-clause-waits
returns-in_default-clause-waits g c = λ t.
    waits_trans _ _ _ c.loop-have.invariant.frame.token (c.loop-have.invariant.waits t)
    (c.compare_bytes.ensures.waits (c.loop-have.invariant.frame.told t))

-- a block isn't the same, so the whole isn't
pub returns-in_default-clause-compares : goal.returns-in_default-clause-compares
returns-in_default-clause-compares g c = λ t.
    let ns = c.args.numbers.now in
    let have = c.loop-have.have in
    let end = c.min-end.result in
    let before = numbers_bytes (take have ns) in
    let block = numbers_bytes (take (end - have) (drop have ns)) in
    let within : have ≤ end = omega (arith, c.min-end.ensures, c.loop-have-test.true) in
    let size : length before ≡ 8 * have =
    omega (arith, numbers_size (take have ns), length-take have ns, c.loop-have.invariant.within) in
    let wrote : length c.put_numbers.new.buf ≡ 8 * (end - have) =
    omega (
      arith,
      ap length c.put_numbers.ensures.bytes,
      numbers_size
          (take (end - have) (drop have ns)),
      length-take (end - have)
          (drop have ns),
      length-drop have ns,
      c.min-end.ensures,
      c.loop-have-test.true,
    ) in
    let whole : (before ++ block) ++ numbers_bytes (drop end ns) ≡ numbers_bytes ns =
    ap (λ (l : List ℕ). l ++ numbers_bytes (drop end ns)) (numbers_next have end ns within)
    ∙ numbers_rest end ns in
    let part =
    take_at c.put_numbers.new.buf (drop (8 * (end - have)) c.loop-have.wanted)
    (8 * (end - have)) wrote ∙ c.put_numbers.ensures.bytes in
    let answer =
    c.compare_bytes.ensures.compares (c.loop-have.invariant.frame.told t) before size
    (c.loop-have.invariant.so_far t) in
    compares_longer c.args.number.0 (before ++ block) (numbers_bytes (drop end ns))
    (numbers_bytes ns) c.compare_bytes.result
    (g.F.Folder.view c.compare_bytes.new.folder) whole c.in_default.not-Yes
    (subst (λ (l : List ℕ). ComparesBytes c.args.number.0 (before ++ l) c.compare_bytes.result
    (g.F.Folder.view c.compare_bytes.new.folder)) part answer)

-- so nothing is claimed of the numbers
pub returns-in_default-clause-signed : goal.returns-in_default-clause-signed
returns-in_default-clause-signed g c = λ yes. absurd (c.in_default.not-Yes yes)

-- all blocks were the same
pub returns-clause-compares : goal.returns-clause-compares
returns-clause-compares g c = λ t.
    subst (λ l. OpenHas c.args.number.0 (HasPart 15 (numbers_bytes l))
    (g.F.Folder.view c.loop-have.folder))
    (take_all c.loop-have.have c.args.numbers.now c.loop-have-test.false)
    (c.loop-have.invariant.so_far t)

-- and all were read
pub returns-clause-signed : goal.returns-clause-signed
returns-clause-signed g c =
    λ yes. subst AreSigned (take_all c.loop-have.have c.args.numbers.now c.loop-have-test.false)
    c.loop-have.invariant.signed

-- a block more was the same
pub loop-have-preserved : goal.loop-have-preserved
loop-have-preserved g c =
    let view = g.F.Folder.view in
    let old = view c.args.folder.now in
    let mid = view c.loop-have.folder in
    let new = view c.compare_bytes.new.folder in
    let ns = c.args.numbers.now in
    let have = c.loop-have.have in
    let end = c.min-end.result in
    let before = numbers_bytes (take have ns) in
    let within : have ≤ end = omega (arith, c.min-end.ensures, c.loop-have-test.true) in
    let next : have + (end - have) ≡ end = omega (arith, within) in
    let front : take end ns ≡ take have ns ++ take (end - have) (drop have ns) =
    ap (λ (n : ℕ). take n ns) (sym next) ∙ take-add have (end - have) ns in
    let size : length before ≡ 8 * have =
    omega (arith, numbers_size (take have ns), length-take have ns, c.loop-have.invariant.within) in
    let wrote : length c.put_numbers.new.buf ≡ 8 * (end - have) =
    omega (
      arith,
      ap length c.put_numbers.ensures.bytes,
      numbers_size
          (take (end - have) (drop have ns)),
      length-take (end - have)
          (drop have ns),
      length-drop have ns,
      c.min-end.ensures,
      c.loop-have-test.true,
    ) in
    let part =
    take_at c.put_numbers.new.buf (drop (8 * (end - have)) c.loop-have.wanted)
    (8 * (end - have)) wrote ∙ c.put_numbers.ensures.bytes in
    record {
      frame =
          answers_next old mid new c.loop-have.invariant.frame (λ bad. bad) c.in-Yes.ensures.frame
          (λ bad. absurd bad) (λ failed. cc);
      waits =
          λ t. waits_trans _ _ _ c.loop-have.invariant.frame.token (c.loop-have.invariant.waits t)
          (c.compare_bytes.ensures.waits (c.loop-have.invariant.frame.told t));
      within = omega (arith, c.min-end.ensures);
      signed =
          subst AreSigned (sym front) (signed_append (take have ns)
          (take (end - have) (drop have ns)) c.loop-have.invariant.signed
          c.put_numbers.ensures.signed);
      so_far = λ t.
          subst (λ (l : List ℕ). OpenHas c.args.number.0 (HasPart 15 l) new)
          (ap (λ (l : List ℕ). before ++ l) part ∙ numbers_next have end ns within)
          (c.in-Yes.ensures.compares (c.loop-have.invariant.frame.told t) before size
          (c.loop-have.invariant.so_far t));
    }
