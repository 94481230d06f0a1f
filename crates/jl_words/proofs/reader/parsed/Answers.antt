use Rattle.std.proofs.Common.{map, string_bytes}
use Rattle.jl_words.proofs.Gathered.{only_known}
use Rattle.jl_words.proofs.reader.parsed.Goals as goal

pub returns-clause-read : goal.returns-clause-read
returns-clause-read c = λ s e. c.in_ok-gathered.ensures s (c.in_ok-found.ensures.found s e) (only_known (map (λ n. n.now) c.args.names.now) (map string_bytes c.args.words.now) s e)
