use Rattle.std.proofs.Common.{◌∙◌, inl, inr, codes, sym, true≢false}
use Rattle.std.proofs.lemmas.Slice.Eq.{bytes_eq-Decides}
use Rattle.jl_tracker.proofs.SaidLemmas.{Says-command}
use Rattle.jl_tracker.proofs.line.read_parts.Goals as goal

pub returns-in_default : goal.returns-in_default
returns-in_default c = λ said h. elim (Says-command _ _ _ said h) [
  | inl e ↦ true≢false (sym ((bytes_eq-Decides c.args.parts.command.now (codes "PROBE")).1 e) ∙ sym c.is_probe.ensures ∙ c.if-is_probe.false)
  | inr p ↦ c.in_default.ensures p.0 p.1
]
