use Rattle.std.proofs.Common.{◌≡◌, ◌+◌, ◌≤◌, ◌∙◌, false, ap, subst, drop}
use Rattle.jl_text.specs.declared.limits.TheConstants.{MOST_INPUT_BYTES}
use Rattle.jl_lines.specs.Lines.{has_newline}
use Rattle.jl_lines.proofs.ReaderLemmas.{passes_long}
use Rattle.jl_lines.proofs.reader.LineReader.pass_long.Goals as goal

pub returns : goal.returns
returns c =
    let is = c.self.view_is in
    passes_long c.args.self.now _ c.args.size _ c.requires.going c.requires.ends (subst (λ v. has_newline v.front ≡ false) is c.self.invariant.none) c.requires.over (ap (λ v. v.lines + 1) is)
    (λ i. record {
      limit = (is i).limit;
      taken = (is i).taken;
      lines = c.self.inside.lines + 1;
      long = false;
      ended = (is i).ended;
      front = c.clear.ensures.items i;
      rest = (c.pass.ensures ∙ ap (λ v. drop c.args.size v.rest) is) i;
    }) (subst (λ v. v.taken ≤ MOST_INPUT_BYTES) is c.self.invariant.most)
