use Rattle.std.proofs.Common.{sym}
use Rattle.jl_lines.proofs.LineLemmas.{position-some, position-none}
use Rattle.jl_lines.proofs.reader.line_size.Goals as goal

pub returns-in-Some : goal.returns-in-Some
returns-in-Some c = position-some c.args.bytes.now c.in-Some.count (sym c.in-Some.ensures)

pub returns-in-None : goal.returns-in-None
returns-in-None c = position-none c.args.bytes.now (sym c.in-None.ensures)
