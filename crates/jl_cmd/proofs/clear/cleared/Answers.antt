use Rattle.jl_cmd.proofs.ClearLemmas.{taken_all, taken_module, taken_function, taken_entry}
use Rattle.jl_cmd.proofs.clear.cleared.Goals as goal

pub returns-in_default-clause-clears : goal.returns-in_default-clause-clears
returns-in_default-clause-clears g c = λ told. taken_all _ _ _ _ _ _ _ c.in_default.is (c.clear_all.ensures.clears told)

pub returns-in_default-func-clause-clears : goal.returns-in_default-func-clause-clears
returns-in_default-func-clause-clears g c = λ told. taken_module _ _ _ _ _ _ _ _ _ c.in-Some.is c.in_default-func.is c.as_str.ensures (c.clear_module.ensures.clears told)

pub returns-in_default-key-clause-clears : goal.returns-in_default-key-clause-clears
returns-in_default-key-clause-clears g c = λ told.
    taken_function _ _ _ _ _ _ _ _ _ _ _ c.in-Some.is c.in-Some-func.is c.in_default-key.is c.as_str-in_default-key.ensures c.as_str-in_default-key-2.ensures (c.clear_function.ensures.clears told)

pub returns-clause-clears : goal.returns-clause-clears
returns-clause-clears g c = λ told.
    taken_entry _ _ _ _ _ _ _ _ _ _ _ _ c.in-Some.is c.in-Some-func.is c.in-Some-key.is c.as_str-2.ensures c.as_str-3.ensures (c.clear_item.ensures.clears told)
