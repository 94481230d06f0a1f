use Rattle.jl_array.proofs.LawLemmas.{dump_not_cut, dump_not_none, cut_not_none, text_dump}
use Rattle.jl_array.proofs.LawLemmas.{dump_list}
use Rattle.jl_array.proofs.laws.files_are_judged_one_way.Goals as goal

-- a file is one thing
pub returns-clause-not_cut_off : goal.returns-clause-not_cut_off
returns-clause-not_cut_off c = dump_not_cut

-- an array, or none
pub returns-clause-not_none : goal.returns-clause-not_none
returns-clause-not_none c = dump_not_none

-- cut off, or none
pub returns-clause-not_both : goal.returns-clause-not_both
returns-clause-not_both c = cut_not_none

-- a text is an array, and an array is a text
pub returns-clause-text : goal.returns-clause-text
returns-clause-text c = text_dump

-- and an array is a text
pub returns-clause-list : goal.returns-clause-list
returns-clause-list c = dump_list
