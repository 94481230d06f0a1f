-- The texts of a run: the lines of its warnings, and then its last text.
use Rattle.std.proofs.Common.{◌≡◌, ◌∙◌, ◌++◌, List, ℕ, ap, append_assoc}
use Rattle.jl_tracker.specs.Stages.{sink_point}
use Rattle.jl_cmd.specs.Endings.{last_text}
use Rattle.jl_cmd.proofs.EndingLemmas.{wrote_clear, rose_front, rose_back}
use Rattle.jl_cmd.proofs.ReportLemmas.{wrote_text}
use Rattle.jl_cmd.proofs.top.report.Goals as goal

-- without a fault the lines and then the last text were written
pub returns-clause-text : goal.returns-clause-text
returns-clause-text g c = λ clear.
    let written = (g.E.Sink.view c.args.err.now).written in
    let old = g.E.Sink.view c.args.err.now in
    let mid = g.E.Sink.view c.write_all-wrote.new.sink in
    let new = g.E.Sink.view c.write_all-told.new.sink in
    let one = c.write_all-wrote.ensures.frame in
    let two = c.write_all-told.ensures.frame in
    let first =
    wrote_clear c.write_all-wrote.result _ old mid c.write_all-wrote.ensures.bytes
    one.faults.failed (
      clear.0,
      λ rose. clear.1 (rose_front old.faults mid.faults new.faults two.faults.later rose),
    ) in
    let second =
    wrote_clear c.write_all-told.result _ mid new c.write_all-told.ensures.bytes two.faults.failed (
      one.told clear.0,
      λ rose. clear.1 (rose_back old.faults mid.faults new.faults one.faults.later rose),
    ) in
    let lines : c.as_bytes.result.now ≡ c.args.warned.now.lines =
    c.as_bytes.ensures.value ∙ c.as_str.ensures in
    let last : c.as_bytes-2.result.now ≡ last_text c.args.warned.now.ended =
    c.as_bytes-2.ensures.value ∙ c.text.ensures in
    second
    ∙ ap (λ (t : List ℕ). t ++ c.as_bytes-2.result.now) first
    ∙ append_assoc written c.as_bytes.result.now c.as_bytes-2.result.now
    ∙ (λ i. written ++ (lines i ++ last i))

-- each of the two was written whole or in part
pub returns-clause-each : goal.returns-clause-each
returns-clause-each g c = λ told.
    let E = g.E.Sink in
    let first = c.write_all-wrote in
    let second = c.write_all-told in
    let mid = E.view first.new.sink in
    let lines : c.as_bytes.result.now ≡ c.args.warned.now.lines =
    c.as_bytes.ensures.value ∙ c.as_str.ensures in
    let last : c.as_bytes-2.result.now ≡ last_text c.args.warned.now.ended =
    c.as_bytes-2.ensures.value ∙ c.text.ensures in
    record {
      between = sink_point mid;
      wrote_first =
          wrote_text first.result _ _ (E.view c.args.err.now) mid lines (first.ensures.bytes told)
          first.ensures.frame.faults;
      wrote_second =
          wrote_text second.result _ _ mid (E.view second.new.sink) last
          (second.ensures.bytes (first.ensures.frame.told told)) second.ensures.frame.faults;
    }
