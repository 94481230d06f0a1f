use Rattle.std.proofs.Common.{codes}
use Rattle.jl_words.proofs.Suffixes.{stripped}
use Rattle.jl_words.proofs.module.stem.Goals as goal

pub returns : goal.returns
returns c = stripped (codes ".def") c.args.part.now c.strip_suffix.result c.strip_suffix.ensures.cases
