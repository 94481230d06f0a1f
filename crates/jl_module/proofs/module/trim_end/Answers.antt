use Rattle.std.proofs.Common.{◌-◌, sym, ◌∙◌, arith}
use Rattle.jl_module.proofs.LineLemmas.{trimmed_less, trimmed_here}
use Rattle.jl_module.proofs.module.trim_end.Goals as goal

pub returns-then-not-is_trailing : goal.returns-then-not-is_trailing
returns-then-not-is_trailing c =
    sym (trimmed_here c.args.line.now (c.loop-end.end - 1) c.loop-end.end (omega arith) c.loop-end.invariant.0 (sym c.is_trailing.ensures ∙ c.if-not-is_trailing.true)) ∙ c.loop-end.invariant.1

pub loop-end-preserved : goal.loop-end-preserved
loop-end-preserved c =
    (omega arith, trimmed_less c.args.line.now (c.loop-end.end - 1) c.loop-end.end (omega arith) c.loop-end.invariant.0 (sym c.is_trailing.ensures ∙ c.if-not-is_trailing.false) ∙ c.loop-end.invariant.1)
