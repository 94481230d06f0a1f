use Rattle.std.proofs.Common.{◌∙◌, ap, true≢false, sym, arith, min, ◌+◌, ◌-◌, ◌^◌}
use Rattle.jl_memory.proofs.ToldLemmas.{told_numbered}
use Rattle.jl_memory.proofs.memory.MemFolder.take_number.Goals as goal

pub returns-clause-begins : goal.returns-clause-begins
returns-clause-begins c =
    let b = c.let_others_move.new.self in
    let l = c.let_others_move.ensures in
    record {
      told = λ t. told_numbered b c.saturating_add-self.result (l.told t);
      moved = λ t. let i = l.moved t in record { others = i.others; lost = i.lost; trace = i.trace; start = i.start; counts = i.counts; lets = i.lets; lawful = i.lawful; foreign = i.foreign };
      token = l.token;
      opens = l.opens;
      faults = record { later = omega (arith, l.faults); failed = λ e. absurd (true≢false (sym e)); steady = λ _. l.faults };
      script = record {
        calls = c.saturating_add-self.ensures ∙ ap (λ k. min (k + 1) (2 ^ 64 - 1)) l.calls;
        failing = l.failing;
        stop = l.stop;
        named = l.named;
        begun = l.begun;
        others = l.others;
      };
    }
