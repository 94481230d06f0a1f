use Rattle.std.proofs.Common.{◌≡◌, drop, map}
use Rattle.clap.specs.Words.{app_of}
use Rattle.jl_words.specs.Parsing.{option_rule, app_with, with_rules}
use Rattle.jl_words.proofs.parser.command.Given as goal

abbrev pub invariant-loop-name : goal.invariant-loop-name
invariant-loop-name l = with_rules (app_of l.command) (map option_rule (drop l.name-index (map (λ n. n.now) l.names))) ≡ app_with (map (λ n. n.now) l.names)
