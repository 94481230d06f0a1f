use Rattle.std.proofs.Common.{lit<, None}
use Rattle.std.proofs.lemmas.Str.Pattern.{strip_prefix_char}
use Rattle.jl_tracker.proofs.SpelledLemmas.{no_slash}
use Rattle.jl_tracker.proofs.paths.behind_slash.Goals as goal

pub returns-in-None : goal.returns-in-None
returns-in-None c = no_slash c.args.text.now (strip_prefix_char 47 c.args.text.now None c.in-None.ensures.cases (lit< tt))
