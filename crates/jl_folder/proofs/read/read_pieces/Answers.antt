use Rattle.std.proofs.Common.{◌≡◌, ◌≤◌, ◌+◌, length, take, sym, ◌∙◌, ap, subst, refl, arith, length-append, length-take}
use Rattle.jl_folder.specs.State.{node_at}
use Rattle.jl_folder.specs.Views.{state, moved}
use Rattle.jl_folder.specs.Reading.{ReadsNode}
use Rattle.jl_folder.proofs.NodesKept.{Begins, is_there}
use Rattle.jl_folder.proofs.Frames.{answers_none, answers_next}
use Rattle.jl_folder.proofs.ReadingLemmas.{waits_none, read_waits, begins_on, reads_enough, reads_end}
use Rattle.jl_folder.proofs.read.read_pieces.Goals as goal
use Rattle.jl_folder.proofs.read.read_pieces.Goals.{then-left-buf, else-left-buf}

pub pieces-init : goal.pieces-init
pieces-init g c =
    let old = g.F.Folder.view c.args.folder.now in
    record {
      frame = answers_none old;
      waits = λ t. waits_none old old refl refl;
      so_far = λ t file is_open.
          let there = is_there _ ((g.met.F.Folder.lawful c.args.folder.now t).nodes c.args.number.0 file is_open) in
          subst (λ bytes. Begins (node_at (state old) file.node) bytes) (sym c.new-bytes.ensures.items) there;
      within = omega (arith, ap length c.new-bytes.ensures.items);
    }

pub returns-in-Read-eq0-clause-waits : goal.returns-in-Read-eq0-clause-waits
returns-in-Read-eq0-clause-waits g c = λ t.
    read_waits _ _ _ _ _ _ _ _ c.read_at.result c.pieces.invariant.frame.token (c.pieces.invariant.waits t) (c.read_at.ensures.call (c.pieces.invariant.frame.told t))

pub returns-then-not-push_front-clause-waits : goal.returns-then-not-push_front-clause-waits
returns-then-not-push_front-clause-waits g c = λ t.
    read_waits _ _ _ _ _ _ _ _ c.read_at.result c.pieces.invariant.frame.token (c.pieces.invariant.waits t) (c.read_at.ensures.call (c.pieces.invariant.frame.told t))

pub returns-in-Failed-clause-waits : goal.returns-in-Failed-clause-waits
returns-in-Failed-clause-waits g c = λ t.
    read_waits _ _ _ _ _ _ _ _ c.read_at.result c.pieces.invariant.frame.token (c.pieces.invariant.waits t) (c.read_at.ensures.call (c.pieces.invariant.frame.told t))

pub returns-in-Read-eq0-clause-reads : goal.returns-in-Read-eq0-clause-reads
returns-in-Read-eq0-clause-reads g c = λ t file is_open.
    let view = g.F.Folder.view in
    let old = view c.args.folder.now in
    let mid = view c.pieces.folder in
    let new = view c.read_at.new.self in
    let whole = read_waits old mid new _ _ _ _ _ c.read_at.result c.pieces.invariant.frame.token (c.pieces.invariant.waits t) (c.read_at.ensures.call (c.pieces.invariant.frame.told t)) in
    let at_is : c.len-in-pieces-2.result ≡ length c.pieces.bytes.items = omega (arith, c.len-in-pieces-2.ensures, c.pieces.bytes.ok.0) in
    subst (λ bytes. ReadsNode file.node c.args.most bytes (state old) (moved old new)) (sym c.new.ensures)
    (reads_end old mid new c.args.number.0 c.len-in-pieces-2.result c.in-Read-eq0.field-0 c.args.most _ c.read_at.new.buf mid.opens file c.pieces.bytes.items whole
    (c.in-Read-eq0.ensures.call (c.pieces.invariant.frame.told t)) c.in-Read-eq0.field-0-test (ap (λ f. f c.args.number.0) c.pieces.invariant.frame.opens ∙ is_open) at_is
    (c.pieces.invariant.so_far t file is_open) c.pieces.invariant.within)

pub returns-clause-reads : goal.returns-clause-reads
returns-clause-reads g c = λ t file is_open.
    let view = g.F.Folder.view in
    let old = view c.args.folder.now in
    let new = view c.pieces.folder in
    let more : c.args.most ≤ length c.pieces.bytes.items = omega (arith, c.pieces-test.false, c.len.ensures, c.pieces.bytes.ok.0) in
    subst (λ bytes. ReadsNode file.node c.args.most bytes (state old) (moved old new)) (sym c.new-2.ensures)
    (reads_enough old new file.node c.args.most c.pieces.bytes.items (c.pieces.invariant.waits t) (c.pieces.invariant.so_far t file is_open) more c.pieces.invariant.within)

pub pieces-preserved : goal.pieces-preserved
pieces-preserved g c =
    let view = g.F.Folder.view in
    let old = view c.args.folder.now in
    let mid = view c.pieces.folder in
    let new = view c.read_at.new.self in
    let added = c.push_front.ensures c.if-not-push_front.false in
    record {
      frame = answers_next old mid new c.pieces.invariant.frame (λ bad. bad) c.in-Read.ensures.frame (λ bad. absurd bad) (λ failed. cc);
      waits = λ t. read_waits old mid new _ _ _ _ _ c.read_at.result c.pieces.invariant.frame.token (c.pieces.invariant.waits t) (c.read_at.ensures.call (c.pieces.invariant.frame.told t));
      so_far = λ t file is_open.
          let at_is : c.len-in-pieces-2.result ≡ length c.pieces.bytes.items = omega (arith, c.len-in-pieces-2.ensures, c.pieces.bytes.ok.0) in
          subst (λ bytes. Begins (node_at (state new) file.node) bytes) (sym added)
          (begins_on mid new c.args.number.0 c.len-in-pieces-2.result c.in-Read.k _ c.read_at.new.buf mid.opens file c.pieces.bytes.items (c.in-Read.ensures.call (c.pieces.invariant.frame.told t))
          (ap (λ f. f c.args.number.0) c.pieces.invariant.frame.opens ∙ is_open) at_is (c.pieces.invariant.so_far t file is_open));
      within =
          let grown : length c.push_front.new.bytes.items ≡ length c.pieces.bytes.items + length (take c.in-Read.k c.read_at.new.buf) = ap length added ∙ length-append c.pieces.bytes.items (take c.in-Read.k c.read_at.new.buf) in
          let front : length (take c.in-Read.k c.read_at.new.buf) ≤ c.in-Read.k = omega (arith, length-take c.in-Read.k c.read_at.new.buf) in
          let size : length (take c.if-left-buf.size c.pieces.buf) ≤ c.if-left-buf.size = omega (arith, length-take c.if-left-buf.size c.pieces.buf) in
          elim c.if-left-buf.branch [
            | then-left-buf w ↦ omega (arith, grown, front, size, c.in-Read.ensures.within, w.size-is, c.len.ensures, c.pieces.bytes.ok.0, c.len-in-pieces.ensures, c.pieces-test.true)
            | else-left-buf w ↦ omega (arith, grown, front, size, c.in-Read.ensures.within, w.size-is, w.if-left-buf.false, c.len.ensures, c.pieces.bytes.ok.0, c.len-in-pieces.ensures, c.pieces-test.true)
          ];
    }
