use Rattle.std.proofs.Common.{None, lit<}
use Rattle.std.proofs.lemmas.Str.Pattern.{split_once_first}
use Rattle.jl_words.proofs.Lists.{bare_name}
use Rattle.jl_words.proofs.reader.name_and_value.Goals as goal

pub returns-in-None : goal.returns-in-None
returns-in-None c = bare_name c.args.body.now (split_once_first 61 c.args.body.now None c.in-None.ensures.cases (lit< tt))
