use Rattle.std.proofs.Common.{[], ◌∷◌, ◌++◌, ap, ◌∙◌, append_assoc}
use Rattle.std.proofs.lemmas.Result.{IfOk-weaker}
use Rattle.jl_entry.specs.Names.{root_of}
use Rattle.jl_entry.proofs.names.function_folder.Goals as goal

pub returns : goal.returns
returns c = IfOk-weaker c.join_name.result _ _ (λ p e. e ∙ ap (λ r. r ++ c.args.name.now ∷ []) c.in_ok-folder.ensures ∙ append_assoc (root_of c.args.location.now) (c.args.«module».now ∷ []) (c.args.name.now ∷ [])) c.join_name.ensures
