use Rattle.std.proofs.Common.{[], ◌∷◌, ◌++◌, ap, ◌∙◌}
use Rattle.std.proofs.lemmas.Result.{IfOk-weaker}
use Rattle.jl_entry.proofs.names.module_folder.Goals as goal

pub returns : goal.returns
returns c = IfOk-weaker c.join_name.result _ _ (λ p e. e ∙ ap (λ r. r ++ c.args.«module».now ∷ []) c.in_ok-root.ensures) c.join_name.ensures
