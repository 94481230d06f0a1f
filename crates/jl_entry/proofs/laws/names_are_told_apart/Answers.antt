use Rattle.jl_entry.proofs.NameFacts.{temp_one_way, final_one_way, final_not_temp, final_not_folder, temp_not_folder}
use Rattle.jl_entry.proofs.laws.names_are_told_apart.Goals as goal

pub returns-clause-temporary : goal.returns-clause-temporary
returns-clause-temporary c root p x y t u a b = temp_one_way root x y t u p a b

pub returns-clause-final_name : goal.returns-clause-final_name
returns-clause-final_name c root p x y a b = final_one_way root x y p a b

pub returns-clause-final_or_temporary : goal.returns-clause-final_or_temporary
returns-clause-final_or_temporary c root p x y t a b = final_not_temp root x y t p a b

pub returns-clause-final_or_folder : goal.returns-clause-final_or_folder
returns-clause-final_or_folder c root p x a h = final_not_folder root x p a h

pub returns-clause-temporary_or_folder : goal.returns-clause-temporary_or_folder
returns-clause-temporary_or_folder c root p x t a h = temp_not_folder root x t p a h
