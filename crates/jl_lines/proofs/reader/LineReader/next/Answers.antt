use Rattle.std.proofs.Common.{◌∙◌, true≢false, ap, subst, sym}
use Rattle.jl_lines.specs.Lines.{has_newline}
use Rattle.jl_lines.specs.Readers.{IsReader}
use Rattle.jl_lines.specs.Steps.{waiting}
use Rattle.jl_lines.proofs.FollowLemmas.{step_follows}
use Rattle.jl_lines.proofs.StepLemmas.{goes_on, goes_step, over_step}
use Rattle.jl_lines.proofs.reader.LineReader.next.Goals as goal

pub returns-then-self-clause-step : goal.returns-then-self-clause-step
returns-then-self-clause-step g c = let is = c.self.view_is in over_step c.args.self.now _ (subst IsReader is c.self.invariant) (ap (λ v. v.ended) (sym is) ∙ c.if-self.true)

pub returns-then-self-clause-lines : goal.returns-then-self-clause-lines
returns-then-self-clause-lines g c = λ t knows. step_follows _ _ _ _ _ t knows (returns-then-self-clause-step g c)

pub returns-in-Some-clause-step : goal.returns-in-Some-clause-step
returns-in-Some-clause-step g c = goes_step _ _ _ _ _ _ c.in-Some.answer c.reads.invariant.told c.reads.invariant.goes c.in-Some.ensures.cases

pub reads-preserved : goal.reads-preserved
reads-preserved g c = record {
  goes = goes_on _ _ _ _ _ _ c.reads.invariant.told c.reads.invariant.goes c.in_default.ensures.cases.goes;
  told = λ t. c.advance.ensures.frame.told (c.reads.invariant.told t);
  steady = c.advance.ensures.frame.faults.steady (λ fails. cc) ∙ c.reads.invariant.steady;
  still = λ whole. absurd (true≢false (sym whole ∙ ap (λ v. has_newline (waiting v)) (sym (c.reads.invariant.still whole).0) ∙ c.in_default.ensures.cases.none));
}

pub returns-in-Some-clause-lines : goal.returns-in-Some-clause-lines
returns-in-Some-clause-lines g c = λ t knows. step_follows _ _ _ _ c.in-Some.answer t knows (goes_step _ _ _ _ _ _ c.in-Some.answer c.reads.invariant.told c.reads.invariant.goes c.in-Some.ensures.cases)
