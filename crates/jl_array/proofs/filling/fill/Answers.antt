use Rattle.std.proofs.Common.{◌-◌, [], length, refl, arith}
use borrow.Rule.Slice.PartMut.{put_mid}
use Rattle.jl_folder.proofs.Frames.{answers_none, answers_next}
use Rattle.jl_folder.proofs.ReadingLemmas.{waits_none, read_waits}
use Rattle.jl_array.specs.Dumps.{HasPart}
use Rattle.jl_array.proofs.Parts.{part_none, put_size, rest_size}
use Rattle.jl_array.proofs.NodeFacts.{has_node}
use Rattle.jl_array.proofs.FillLemmas.{fill_more, fill_short}
use Rattle.jl_array.proofs.filling.fill.Goals as goal

-- nothing was read
pub loop-have-init : goal.loop-have-init
loop-have-init g c =
    let old = g.F.Folder.view c.args.folder.now in
    record {
      frame = answers_none old;
      waits = λ t. waits_none old old refl refl;
      within = omega arith;
      so_far =
          λ t. has_node old c.args.number.0 (HasPart c.args.at [])
          (g.met.F.Folder.lawful c.args.folder.now t) c.requires.is_open
          (λ bytes. part_none c.args.at bytes);
    }

-- a read makes no move
pub returns-in-Read-eq0-clause-waits : goal.returns-in-Read-eq0-clause-waits
returns-in-Read-eq0-clause-waits g c = λ t.
    read_waits _ _ _ _ _ _ _ _ c.read_at.result c.loop-have.invariant.frame.token
    (c.loop-have.invariant.waits t) (c.read_at.ensures.call (c.loop-have.invariant.frame.told t))

-- nor does one that fails
pub returns-in-Failed-clause-waits : goal.returns-in-Failed-clause-waits
returns-in-Failed-clause-waits g c = λ t.
    read_waits _ _ _ _ _ _ _ _ c.read_at.result c.loop-have.invariant.frame.token
    (c.loop-have.invariant.waits t) (c.read_at.ensures.call (c.loop-have.invariant.frame.told t))

-- nothing stands behind what was read
pub returns-in-Read-eq0-clause-fills : goal.returns-in-Read-eq0-clause-fills
returns-in-Read-eq0-clause-fills g c = λ t.
    let mid = g.F.Folder.view c.loop-have.folder in
    let new = g.F.Folder.view c.read_at.new.self in
    fill_short mid new c.args.number.0 c.args.at c.loop-have.have c.in-Read-eq0.field-0 _
    c.read_at.new.buf c.in-Read-eq0.ensures.frame.opens
    (c.in-Read-eq0.ensures.call (c.loop-have.invariant.frame.told t))
    (length (put_mid c.loop-have.have (length c.loop-have.buf - c.loop-have.have) c.loop-have.buf
    c.read_at.new.buf)) c.in-Read-eq0.field-0-test
    (omega (
      arith,
      c.loop-have-test.true,
      put_size c.loop-have.have c.loop-have.buf
          c.read_at.new.buf c.loop-have.invariant.within c.read_at.auto.buf,
    ))

-- a piece more was read
pub loop-have-preserved : goal.loop-have-preserved
loop-have-preserved g c =
    let view = g.F.Folder.view in
    let old = view c.args.folder.now in
    let mid = view c.loop-have.folder in
    let new = view c.read_at.new.self in
    record {
      frame =
          answers_next old mid new c.loop-have.invariant.frame (λ bad. bad) c.in-Read.ensures.frame
          (λ bad. absurd bad) (λ failed. cc);
      waits =
          λ t. read_waits old mid new _ _ _ _ _ c.read_at.result c.loop-have.invariant.frame.token
          (c.loop-have.invariant.waits t)
          (c.read_at.ensures.call (c.loop-have.invariant.frame.told t));
      within =
          omega (
            arith,
            c.in-Read.ensures.within,
            rest_size c.loop-have.have c.loop-have.buf,
            c.loop-have.invariant.within,
            put_size c.loop-have.have c.loop-have.buf c.read_at.new.buf
                c.loop-have.invariant.within c.read_at.auto.buf,
          );
      so_far = λ t.
          fill_more mid new c.args.number.0 c.args.at c.loop-have.have c.in-Read.k _
          c.read_at.new.buf c.in-Read.ensures.frame.opens
          (c.in-Read.ensures.call (c.loop-have.invariant.frame.told t))
          (length c.loop-have.buf - c.loop-have.have) c.loop-have.buf c.loop-have.invariant.within
          (omega (arith, c.in-Read.ensures.within, c.read_at.auto.buf))
          (c.loop-have.invariant.so_far t);
    }
