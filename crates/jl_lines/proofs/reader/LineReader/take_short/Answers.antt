use Rattle.std.proofs.Common.{◌≡◌, ◌+◌, ◌≤◌, ◌-◌, ◌∙◌, ◌++◌, false, ap, subst, take, drop}
use Rattle.jl_text.specs.declared.limits.TheConstants.{MOST_INPUT_BYTES}
use Rattle.jl_lines.specs.Lines.{has_newline}
use Rattle.jl_lines.proofs.ReaderLemmas.{takes_short, keeps_short}
use Rattle.jl_lines.proofs.reader.LineReader.take_short.Goals as goal

pub returns-in-Err : goal.returns-in-Err
returns-in-Err c =
    let is = c.self.view_is in
    keeps_short c.args.self.now _ c.args.size c.requires.going c.requires.ends (subst (λ v. has_newline v.front ≡ false) is c.self.invariant.none) c.requires.short
    (λ i. record {
      limit = (is i).limit;
      taken = (is i).taken;
      lines = (is i).lines;
      long = (is i).long;
      ended = (is i).ended;
      front = (c.in-Err.ensures.items ∙ ap (λ v. v.front) is) i;
      rest = (is i).rest;
    }) (subst (λ v. v.taken ≤ MOST_INPUT_BYTES) is c.self.invariant.most)

pub returns : goal.returns
returns c =
    let is = c.self.view_is in
    takes_short c.args.self.now _ c.args.size _ _ c.requires.going c.requires.ends (subst (λ v. has_newline v.front ≡ false) is c.self.invariant.none) c.requires.short (ap (λ v. v.lines + 1) is)
    (c.new-2.ensures ∙ ap (λ v. v.items) c.replace.ensures.value ∙ c.in-Ok.ensures.items ∙ ap (λ bytes. c.self.inside.front.items ++ bytes) (ap (take (c.args.size - 1)) c.rest.ensures) ∙ ap (λ v. v.front ++ take (c.args.size - 1) v.rest) is)
    (λ i. record {
      limit = (is i).limit;
      taken = (is i).taken;
      lines = c.self.inside.lines + 1;
      long = (is i).long;
      ended = (is i).ended;
      front = (ap (λ v. v.items) c.replace.ensures.after ∙ c.new.ensures.items) i;
      rest = (c.pass.ensures ∙ ap (λ v. drop c.args.size v.rest) is) i;
    }) (subst (λ v. v.taken ≤ MOST_INPUT_BYTES) is c.self.invariant.most)
