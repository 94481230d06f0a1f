use Rattle.jl_array.proofs.CompareLemmas.{has_not_other, has_not_short, other_not_short}
use Rattle.jl_array.proofs.laws.comparisons_have_one_answer.Goals as goal

-- the bytes, or others
pub returns-clause-not_other : goal.returns-clause-not_other
returns-clause-not_other c = has_not_other

-- or an end
pub returns-clause-not_short : goal.returns-clause-not_short
returns-clause-not_short c = has_not_short

-- others, or an end
pub returns-clause-not_both : goal.returns-clause-not_both
returns-clause-not_both c = other_not_short
