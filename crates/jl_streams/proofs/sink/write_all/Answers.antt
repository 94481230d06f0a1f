use Rattle.std.proofs.Common.{◌≤◌, ◌++◌, length, take, drop, arith, subst, ap, ◌∙◌}
use Rattle.std.proofs.lemmas.List.{length-drop}
use Rattle.jl_streams.specs.Streams.{WritesPrefix}
use Rattle.jl_streams.proofs.WriteLemmas.{rest_is, written_more, WritesPrefix-more}
use Rattle.jl_streams.proofs.sink.write_all.Goals as goal

pub loop-at-preserved : goal.loop-at-preserved
loop-at-preserved g c =
    let bytes = c.args.bytes.now in
    let at = c.loop-at.at in
    let before = c.loop-at.invariant in
    let some : c.in-Took.k ≤ length (drop at bytes) = subst (λ piece. c.in-Took.k ≤ length piece) (rest_is bytes at) c.in-Took.ensures.some.0 in
    record {
      within = omega (arith, some, length-drop at bytes, before.within);
      told = λ told. c.in-Took.ensures.frame.told (before.told told);
      written = λ told. written_more bytes _ _ _ at c.in-Took.k (before.written told) (c.in-Took.ensures.bytes (before.told told) ∙ ap (λ piece. (g.O.Sink.view c.loop-at.sink).written ++ take c.in-Took.k piece) (rest_is bytes at));
      same = c.in-Took.ensures.frame.faults.steady (λ fails. cc) ∙ before.same;
    }

pub returns-in-Failed-clause-bytes : goal.returns-in-Failed-clause-bytes
returns-in-Failed-clause-bytes g c = λ told.
    let bytes = c.args.bytes.now in
    let at = c.loop-at.at in
    let before = c.loop-at.invariant in
    WritesPrefix-more bytes _ _ _ at before.within (before.written told)
    (subst (λ piece. WritesPrefix piece (g.O.Sink.view c.loop-at.sink).written (g.O.Sink.view c.write.new.self).written) (rest_is bytes at) (c.in-Failed.ensures.bytes (before.told told)))
