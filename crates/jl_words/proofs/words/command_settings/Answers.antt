use Rattle.std.proofs.Common.{ap, ◌∙◌}
use Rattle.std.specs.List.{list_any}
use Rattle.std.specs.Str.{bytes_eq}
use Rattle.jl_words.specs.Parsing.{plain_id}
use Rattle.jl_words.proofs.Gathered.{free_options}
use Rattle.jl_words.proofs.words.command_settings.Goals as goal

pub read-requires : goal.read-requires
read-requires c = record { free = ap (λ names. list_any (λ n. bytes_eq plain_id n) names) c.options-names.ensures ∙ free_options c.args.command }
