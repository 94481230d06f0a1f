-- A command, and then its texts.
use Rattle.std.proofs.Common.{refl}
use Rattle.jl_tracker.specs.Stages.{sink_point}
use Rattle.jl_cmd.proofs.EndingLemmas.{module_or_folder}
use Rattle.jl_cmd.proofs.RanLemmas.{alone_as}
use Rattle.jl_cmd.proofs.top.run_plain.Goals as goal

-- the command ran, and then its texts were written
pub returns-clause-ran : goal.returns-clause-ran
returns-clause-ran g c = record {
  ended = c.command-warned.result.ended;
  said = c.command-warned.result.lines;
  point = sink_point (g.E.Sink.view c.command-warned.new.err);
  ran = c.command-warned.ensures.ran;
  status = c.status.ensures;
  text = λ clear. c.report.ensures.text (c.command-warned.ensures.err.told clear.0, clear.1);
  each = λ told. let wrote = c.report.ensures.each (c.command-warned.ensures.err.told told) in
      record {
        between = wrote.between;
        wrote_first = wrote.wrote_first;
        wrote_second = wrote.wrote_second;
      };
  keeps = record {
    told = λ told. c.report.ensures.frame.told (c.command-warned.ensures.err.told told);
    later = c.report.ensures.frame.later;
  };
}

-- what the command left alone the run did
pub returns-clause-unused : goal.returns-clause-unused
returns-clause-unused g c =
    alone_as _ _ _ _ _ _ _ _ _ _ _ _ refl
    (module_or_folder c.command-warned.result.ended c.status.result c.status.ensures)
    c.command-warned.ensures.unused
