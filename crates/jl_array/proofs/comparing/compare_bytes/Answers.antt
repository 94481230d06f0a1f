use Rattle.std.proofs.Common.{◌≡◌, ◌+◌, ◌-◌, ◌≤◌, ◌++◌, Bool, true, false, not, ℕ, List, length}
use Rattle.std.proofs.Common.{take, drop, take_all, append-nil, true≢false, refl, sym, ap, subst}
use Rattle.std.proofs.Common.{◌∙◌, arith}
use Rattle.std.proofs.lemmas.Slice.Eq.{bytes_eq-Decides}
use borrow.Rule.Slice.PartMut.{put_mid}
use Rattle.jl_folder.proofs.Frames.{answers_none, answers_next}
use Rattle.jl_folder.proofs.ReadingLemmas.{waits_none, read_waits}
use Rattle.jl_array.specs.Dumps.{HasPart}
use Rattle.jl_array.specs.Nodes.{OpenHas}
use Rattle.jl_array.proofs.Parts.{put_size, rest_size}
use Rattle.jl_array.proofs.CompareLemmas.{same_piece, piece_same, compare_more, compare_differs}
use Rattle.jl_array.proofs.CompareLemmas.{compare_short}
use Rattle.jl_array.proofs.comparing.compare_bytes.Goals as goal

-- what isn't unequal is equal
not_apart : (b : Bool) → not b ≡ false → b ≡ true
not_apart true e = refl
not_apart false e = cc

-- nothing was compared
pub loop-have-init : goal.loop-have-init
loop-have-init g c =
    let old = g.F.Folder.view c.args.folder.now in
    record {
      frame = answers_none old;
      waits = λ t. waits_none old old refl refl;
      room = c.requires.room;
      within = omega arith;
      so_far =
          λ t before size has. subst (λ (l : List ℕ). OpenHas c.args.number.0 (HasPart 15 l) old)
          (sym (append-nil before)) has;
    }

-- a read makes no move
pub returns-in-Read-eq0-clause-waits : goal.returns-in-Read-eq0-clause-waits
returns-in-Read-eq0-clause-waits g c = λ t.
    read_waits _ _ _ _ _ _ _ _ c.read_at.result c.loop-have.invariant.frame.token
    (c.loop-have.invariant.waits t) (c.read_at.ensures.call (c.loop-have.invariant.frame.told t))

-- before a piece that is another
pub returns-then-ne-clause-waits : goal.returns-then-ne-clause-waits
returns-then-ne-clause-waits g c = λ t.
    read_waits _ _ _ _ _ _ _ _ c.read_at.result c.loop-have.invariant.frame.token
    (c.loop-have.invariant.waits t) (c.read_at.ensures.call (c.loop-have.invariant.frame.told t))

-- and where it fails
pub returns-in-Failed-clause-waits : goal.returns-in-Failed-clause-waits
returns-in-Failed-clause-waits g c = λ t.
    read_waits _ _ _ _ _ _ _ _ c.read_at.result c.loop-have.invariant.frame.token
    (c.loop-have.invariant.waits t) (c.read_at.ensures.call (c.loop-have.invariant.frame.told t))

-- the file ends in the bytes
pub returns-in-Read-eq0-clause-compares : goal.returns-in-Read-eq0-clause-compares
returns-in-Read-eq0-clause-compares g c = λ t before size has.
    compare_short (g.F.Folder.view c.loop-have.folder)
    (g.F.Folder.view c.read_at.new.self) c.args.number.0 c.args.done c.loop-have.have
    c.in-Read-eq0.field-0 _ c.read_at.new.buf before c.args.wanted.now
    c.in-Read-eq0.ensures.frame.opens (c.in-Read-eq0.ensures.call
    (c.loop-have.invariant.frame.told t)) size c.loop-have.invariant.within
    (c.loop-have.invariant.so_far t before size has)
    c.in-Read-eq0.field-0-test c.loop-have-test.true

-- a piece is another
pub returns-then-ne-clause-compares : goal.returns-then-ne-clause-compares
returns-then-ne-clause-compares g c = λ t before size has.
    let have = c.loop-have.have in
    let k = c.in-Read.k in
    let buf = c.loop-have.buf in
    let m = length buf - have in
    let ys = c.read_at.new.buf in
    let wanted = c.args.wanted.now in
    let long : have ≤ length buf =
    omega (arith, c.loop-have.invariant.within, c.loop-have.invariant.room) in
    let some : k ≤ length ys = omega (arith, c.in-Read.ensures.within, c.read_at.auto.buf) in
    let fits : have + k ≤ length wanted =
    omega (
      arith,
      c.in-Read.ensures.within,
      rest_size have buf,
      c.loop-have.invariant.within,
      c.loop-have.invariant.room,
    ) in
    compare_differs (g.F.Folder.view c.loop-have.folder)
    (g.F.Folder.view c.read_at.new.self) c.args.number.0 c.args.done have k _ ys before wanted
    c.in-Read.ensures.frame.opens (c.in-Read.ensures.call (c.loop-have.invariant.frame.told t)) size
    c.loop-have.invariant.within (c.loop-have.invariant.so_far t before size has)
    (omega (arith, c.in-Read.k-test)) fits
    (λ same.
    let equal =
    (bytes_eq-Decides (take (have + k - have) (drop have (put_mid have m buf ys)))
    (take (have + k - have) (drop have wanted))).1
    (piece_same have m k buf ys wanted long some same) in
    true≢false (sym c.if-ne.true ∙ c.ne.ensures ∙ ap not equal))

-- all were the same
pub returns-clause-compares : goal.returns-clause-compares
returns-clause-compares g c = λ t before size has.
    subst (λ (l : List ℕ). OpenHas c.args.number.0 (HasPart 15 (before ++ l))
    (g.F.Folder.view c.loop-have.folder))
    (take_all c.loop-have.have c.args.wanted.now c.loop-have-test.false)
    (c.loop-have.invariant.so_far t before size has)

-- a piece more was the same
pub loop-have-preserved : goal.loop-have-preserved
loop-have-preserved g c =
    let view = g.F.Folder.view in
    let old = view c.args.folder.now in
    let mid = view c.loop-have.folder in
    let new = view c.read_at.new.self in
    let have = c.loop-have.have in
    let k = c.in-Read.k in
    let buf = c.loop-have.buf in
    let m = length buf - have in
    let ys = c.read_at.new.buf in
    let wanted = c.args.wanted.now in
    let long : have ≤ length buf =
    omega (arith, c.loop-have.invariant.within, c.loop-have.invariant.room) in
    let some : k ≤ length ys = omega (arith, c.in-Read.ensures.within, c.read_at.auto.buf) in
    let fits : have + k ≤ length wanted =
    omega (
      arith,
      c.in-Read.ensures.within,
      rest_size have buf,
      c.loop-have.invariant.within,
      c.loop-have.invariant.room,
    ) in
    record {
      frame =
          answers_next old mid new c.loop-have.invariant.frame (λ bad. bad) c.in-Read.ensures.frame
          (λ bad. absurd bad) (λ failed. cc);
      waits =
          λ t. read_waits old mid new _ _ _ _ _ c.read_at.result c.loop-have.invariant.frame.token
          (c.loop-have.invariant.waits t)
          (c.read_at.ensures.call (c.loop-have.invariant.frame.told t));
      room = put_size have buf ys long c.read_at.auto.buf ∙ c.loop-have.invariant.room;
      within = fits;
      so_far = λ t before size has.
          let equal =
          (bytes_eq-Decides (take (have + k - have) (drop have (put_mid have m buf ys)))
          (take (have + k - have) (drop have wanted))).0
          (not_apart _ (sym c.ne.ensures ∙ c.if-ne.false)) in
          compare_more mid new c.args.number.0 c.args.done have k _ ys before wanted
          c.in-Read.ensures.frame.opens (c.in-Read.ensures.call
          (c.loop-have.invariant.frame.told t)) size c.loop-have.invariant.within
          (c.loop-have.invariant.so_far t before size has) fits
          (same_piece have m k buf ys wanted long some equal);
    }
