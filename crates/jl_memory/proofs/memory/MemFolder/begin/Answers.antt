use Rattle.std.proofs.Common.{◌≡◌, false, sym, ◌∙◌}
use Rattle.jl_memory.specs.Scripts.{is_failing}
use Rattle.jl_memory.proofs.OthersLemmas.{cut_kept}
use Rattle.jl_memory.proofs.CallLemmas.{fails_cut}
use Rattle.jl_memory.proofs.memory.MemFolder.begin.Goals as goal

pub returns-then-is_stopped-clause-answer : goal.returns-then-is_stopped-clause-answer
returns-then-is_stopped-clause-answer c = λ t.
    let a = c.args.self.now in
    let b = c.start_append.new.self in
    let g = c.start_append.ensures.begins in
    let failing : is_failing a ≡ false = sym c.start_append.ensures.answer ∙ c.if-start_append.false in
    sym (fails_cut a failing ∙ sym (cut_kept a b t (g.moved t) g.token g.script.begun g.script.stop) ∙ sym c.is_stopped.ensures ∙ c.if-is_stopped.true)

pub returns-clause-answer : goal.returns-clause-answer
returns-clause-answer c = λ t.
    let a = c.args.self.now in
    let b = c.start_append.new.self in
    let g = c.start_append.ensures.begins in
    let failing : is_failing a ≡ false = sym c.start_append.ensures.answer ∙ c.if-start_append.false in
    sym (fails_cut a failing ∙ sym (cut_kept a b t (g.moved t) g.token g.script.begun g.script.stop) ∙ sym c.is_stopped.ensures ∙ c.if-is_stopped.false)
