use Rattle.std.proofs.Common.{◌+◌, ◌<◌, ◌∙◌, length, true, ap, subst, sym, arith}
use Rattle.jl_lines.specs.Readers.{IsReader}
use Rattle.jl_lines.proofs.StepLemmas.{takes_last, not_zero}
use Rattle.jl_lines.proofs.reader.LineReader.last_line.Goals as goal

pub returns : goal.returns
returns c =
    let is = c.self.view_is in
    takes_last c.args.self.now _ _ _ (subst IsReader is c.self.invariant) c.requires (ap (λ v. v.long) (sym is) ∙ c.if-self.false) (subst (λ v. 0 < length v.front) is (omega (arith, not_zero _ c.if-is_empty.ensures, c.self.inside.front.ok.0))) (ap (λ v. v.lines + 1) is)
    (c.new-2.ensures ∙ ap (λ v. v.items) c.replace.ensures.value ∙ ap (λ v. v.front) is)
    (λ i. record {
      limit = (is i).limit;
      taken = (is i).taken;
      lines = c.self.inside.lines + 1;
      long = (is i).long;
      ended = true;
      front = (ap (λ v. v.items) c.replace.ensures.after ∙ c.new.ensures.items) i;
      rest = (is i).rest;
    })
