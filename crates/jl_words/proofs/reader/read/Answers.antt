use Rattle.std.proofs.Common.{map, string_bytes}
use Rattle.std.proofs.lemmas.Result.{IfOk-weaker}
use Rattle.jl_words.specs.Parts.{said_in}
use Rattle.jl_words.specs.Reading.{said_by_words}
use Rattle.jl_words.proofs.Gathered.{some_said, usage_none}
use Rattle.jl_words.proofs.reader.read.Goals as goal

pub returns-clause-read : goal.returns-clause-read
returns-clause-read c = IfOk-weaker c.parsed.result _ _ (λ p h. some_said (said_by_words (map (λ n. n.now) c.args.names.now) (map string_bytes c.args.words.now)) (said_in p) c.in_ok-check.ensures.taken h) c.parsed.ensures.read

pub returns-clause-usage : goal.returns-clause-usage
returns-clause-usage c = usage_none (said_by_words (map (λ n. n.now) c.args.names.now) (map string_bytes c.args.words.now)) c.parsed.result c.parsed.ensures.fault
