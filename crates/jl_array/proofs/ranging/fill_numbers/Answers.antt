use Rattle.std.proofs.Common.{◌-◌, ◌+◌, ◌*◌, [], length, refl, subst, sym, arith, length-take, take}
use Rattle.std.proofs.Common.{take_all}
use Rattle.std.proofs.lemmas.Slice.{take-put_mid}
use Rattle.jl_folder.proofs.Frames.{answers_none, answers_next}
use Rattle.jl_folder.proofs.ReadingLemmas.{waits_none, waits_trans}
use Rattle.jl_array.specs.Dumps.{numbers_bytes, AreSigned, HasPart}
use Rattle.jl_array.proofs.Numerals.{numbers_none, signed_none, signed_append}
use Rattle.jl_array.proofs.Parts.{part_none, mid_size}
use Rattle.jl_array.proofs.NodeFacts.{has_node}
use Rattle.jl_array.proofs.RangeLemmas.{block_more, block_short}
use Rattle.jl_array.proofs.ranging.fill_numbers.Goals as goal

-- no numbers were read
pub loop-have-init : goal.loop-have-init
loop-have-init g c =
    let old = g.F.Folder.view c.args.folder.now in
    record {
      frame = answers_none old;
      waits = λ t. waits_none old old refl refl;
      within = omega arith;
      signed = signed_none;
      so_far = λ t.
          has_node old c.args.number.0 (HasPart c.args.at (numbers_bytes []))
          (g.met.F.Folder.lawful c.args.folder.now t) c.requires.is_open
          (λ bytes. subst (λ l. HasPart c.args.at l bytes) (sym numbers_none)
          (part_none c.args.at bytes));
    }

-- a read makes no move
pub returns-in-Short-clause-waits : goal.returns-in-Short-clause-waits
returns-in-Short-clause-waits g c = λ t.
    waits_trans _ _ _ c.loop-have.invariant.frame.token (c.loop-have.invariant.waits t)
    (c.fill.ensures.waits (c.loop-have.invariant.frame.told t))

-- nor does one that fails
pub returns-in-Fault-clause-waits : goal.returns-in-Fault-clause-waits
returns-in-Fault-clause-waits g c = λ t.
    waits_trans _ _ _ c.loop-have.invariant.frame.token (c.loop-have.invariant.waits t)
    (c.fill.ensures.waits (c.loop-have.invariant.frame.told t))

-- the file ends in this block
pub returns-in-Short-clause-fills : goal.returns-in-Short-clause-fills
returns-in-Short-clause-fills g c = λ t.
    block_short (g.F.Folder.view c.fill.new.folder) c.args.number.0 c.args.at
    (c.args.at + 8 * c.loop-have.have) (length c.fill.new.buf) c.loop-have.out
    (omega (
      arith,
      c.fill.auto.buf,
      length-take
          (8 * (c.min-end.result - c.loop-have.have)) c.loop-have.buf,
      c.min-end.ensures,
      c.loop-have-test.true,
    ))
    (c.in-Short.ensures.fills (c.loop-have.invariant.frame.told t))

-- all were read
pub returns-clause-signed : goal.returns-clause-signed
returns-clause-signed g c =
    λ whole. subst AreSigned (take_all c.loop-have.have c.loop-have.out c.loop-have-test.false)
    c.loop-have.invariant.signed

-- a block more was read
pub loop-have-preserved : goal.loop-have-preserved
loop-have-preserved g c =
    let view = g.F.Folder.view in
    let old = view c.args.folder.now in
    let mid = view c.loop-have.folder in
    let new = view c.fill.new.folder in
    let size =
    mid_size c.loop-have.have (c.min-end.result - c.loop-have.have) c.loop-have.out
    c.take_numbers.new.out (omega (arith, c.min-end.ensures, c.loop-have-test.true))
    c.take_numbers.auto.out in
    record {
      frame =
          answers_next old mid new c.loop-have.invariant.frame (λ bad. bad) c.in-Whole.ensures.frame
          (λ bad. absurd bad) (λ failed. cc);
      waits =
          λ t. waits_trans _ _ _ c.loop-have.invariant.frame.token (c.loop-have.invariant.waits t)
          (c.fill.ensures.waits (c.loop-have.invariant.frame.told t));
      within = omega (arith, c.min-end.ensures, size.1);
      signed =
          subst AreSigned (sym (take-put_mid c.loop-have.have
          (c.min-end.result - c.loop-have.have) c.loop-have.out c.take_numbers.new.out
          c.min-end.result (omega (arith, c.min-end.ensures, c.loop-have-test.true, size.0))
          c.loop-have.invariant.within))
          (signed_append (take c.loop-have.have c.loop-have.out) c.take_numbers.new.out
          c.loop-have.invariant.signed c.take_numbers.ensures.signed);
      so_far = λ t.
          let told = c.loop-have.invariant.frame.told t in
          block_more mid new c.args.number.0 c.args.at c.loop-have.have
          (c.min-end.result - c.loop-have.have) c.min-end.result c.loop-have.out
          c.take_numbers.new.out c.fill.new.buf
          c.in-Whole.ensures.frame.opens
          (c.in-Whole.ensures.waits told) c.loop-have.invariant.within
          (omega (arith, c.min-end.ensures, c.loop-have-test.true, size.0))
          c.take_numbers.ensures.bytes (c.loop-have.invariant.so_far t)
          (c.in-Whole.ensures.fills told);
    }
