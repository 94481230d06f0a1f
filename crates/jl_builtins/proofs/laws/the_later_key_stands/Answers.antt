use Rattle.jl_builtins.proofs.KeyLemmas.{later_stands, others_stay}
use Rattle.jl_builtins.proofs.laws.the_later_key_stands.Goals as goal

pub returns : goal.returns
returns c = record { stands = later_stands; others = others_stay }
