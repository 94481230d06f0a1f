use Rattle.std.proofs.Common.{◌≡◌, ◌-◌, true}
use Rattle.jl_text.specs.declared.limits.TheConstants.{MOST_INPUT_BYTES}
use Rattle.jl_lines.specs.Lines.{has_newline}
use Rattle.jl_lines.specs.Steps.{waiting, Goes}
use Rattle.jl_lines.proofs.reader.LineReader.next.Given as goal

abbrev pub invariant-reads : goal.invariant-reads
invariant-reads g l =
    let view = g.S.Source.view in
    record {
      goes : Goes l.initial.self l.self (view l.initial.source) (view l.source);
      told : (view l.initial.source).told → (view l.source).told;
      steady : (view l.source).faults ≡ (view l.initial.source).faults;
      still : has_newline (waiting l.initial.self) ≡ true → (l.self ≡ l.initial.self) × (l.source ≡ l.initial.source);
    }

abbrev pub decreases-reads : goal.decreases-reads
decreases-reads g l = MOST_INPUT_BYTES - l.self.taken
