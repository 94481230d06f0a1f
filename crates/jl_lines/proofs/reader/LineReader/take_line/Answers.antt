use Rattle.std.proofs.Common.{◌∙◌, ap, subst, sym}
use Rattle.jl_lines.specs.Lines.{has_newline}
use Rattle.jl_lines.specs.Readers.{IsReader}
use Rattle.jl_lines.proofs.StepLemmas.{keeps_all, of_or}
use Rattle.jl_lines.proofs.reader.LineReader.take_line.Goals as goal

pub returns-in-Err : goal.returns-in-Err
returns-in-Err c =
    let is = c.self.view_is in
    let short = of_or _ _ c.in-Err.ensures.1 in
    keeps_all c.args.self.now c.look_over.new.self c.requires (subst IsReader is c.self.invariant) (ap (λ v. has_newline v.rest) (sym is) ∙ ap has_newline (sym c.rest.ensures) ∙ c.in-None.ensures) c.in-Err.ensures.0 short.1 short.0
