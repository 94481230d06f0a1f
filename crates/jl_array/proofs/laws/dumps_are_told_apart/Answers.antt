use Rattle.jl_array.proofs.Numerals.{text_one, text_size, text_front}
use Rattle.jl_array.proofs.laws.dumps_are_told_apart.Goals as goal

-- two lists have two texts
pub returns-clause-injective : goal.returns-clause-injective
returns-clause-injective c = text_one

-- of this size
pub returns-clause-size : goal.returns-clause-size
returns-clause-size c = text_size

-- and none begins another
pub returns-clause-fronts : goal.returns-clause-fronts
returns-clause-fronts c = text_front
