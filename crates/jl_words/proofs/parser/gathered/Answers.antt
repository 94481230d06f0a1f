use Rattle.std.proofs.Common.{map}
use Rattle.jl_words.specs.Parts.{uses_of}
use Rattle.jl_words.proofs.Gathered.{gathers}
use Rattle.jl_words.proofs.parser.gathered.Goals as goal

pub returns : goal.returns
returns c = λ s f only. gathers (map (λ n. n.now) c.args.names.now) c.args.matches.now s (uses_of c.in_ok-given.given.items) (map (λ w. w.now) c.in_ok-plain.plain.items) f only c.in_ok-given.ensures c.in_ok-plain.ensures
