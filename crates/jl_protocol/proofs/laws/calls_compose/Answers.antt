use Rattle.jl_protocol.proofs.LawfulCalls.{proper_together, lawful_together, lawful_if_true, always_make_dir, always_remove, always_remove_dir}
use Rattle.jl_protocol.proofs.laws.calls_compose.Goals as goal

pub returns-clause-proper : goal.returns-clause-proper
returns-clause-proper c = proper_together

pub returns-clause-lawful : goal.returns-clause-lawful
returns-clause-lawful c = lawful_together

pub returns-clause-true_renames : goal.returns-clause-true_renames
returns-clause-true_renames c = lawful_if_true

pub returns-clause-make_dir : goal.returns-clause-make_dir
returns-clause-make_dir c root p token s = always_make_dir root token s p

pub returns-clause-remove : goal.returns-clause-remove
returns-clause-remove c root p token s = always_remove root token s p

pub returns-clause-remove_dir : goal.returns-clause-remove_dir
returns-clause-remove_dir c root p token s = always_remove_dir root token s p
