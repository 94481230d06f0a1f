use Rattle.jl_lang.proofs.ListLaws.{list_length}
use Rattle.jl_lang.proofs.laws.a_list_has_a_member_for_each.Goals as goal

pub returns : goal.returns
returns c = list_length
