use Rattle.std.proofs.Common.{◌∙◌}
use Rattle.jl_entry.proofs.CodeFacts.{one_line}
use Rattle.jl_entry.proofs.codes.without_number_line.Goals as goal

pub returns-in-None : goal.returns-in-None
returns-in-None c = c.behind_line-in-None.ensures ∙ one_line c.args.bytes.now c.in-None.ensures
