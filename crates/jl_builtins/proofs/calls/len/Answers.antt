use Rattle.jl_builtins.proofs.CallLemmas.{list_length, table_length}
use Rattle.jl_builtins.proofs.calls.len.Goals as goal

pub returns-in-List : goal.returns-in-List
returns-in-List c = list_length c.args.value.now _ c.as_slice.result.now c.count_of-in-List.result c.in-List.is c.as_slice.ensures c.count_of-in-List.ensures

pub returns-in-Table : goal.returns-in-Table
returns-in-Table c = table_length c.args.value.now _ c.members.result.now c.count_of-in-Table.result c.in-Table.is c.members.ensures.members c.count_of-in-Table.ensures
