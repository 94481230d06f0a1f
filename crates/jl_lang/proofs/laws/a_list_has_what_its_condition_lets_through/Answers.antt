use Rattle.jl_lang.proofs.ListLaws.{filter_length}
use Rattle.jl_lang.proofs.laws.a_list_has_what_its_condition_lets_through.Goals as goal

pub returns : goal.returns
returns c = filter_length
