use Rattle.std.proofs.Common.{[], ◌∷◌, ◌++◌, ap, ◌∙◌, append_assoc}
use Rattle.std.proofs.lemmas.Result.{IfOk-weaker}
use Rattle.jl_entry.specs.Names.{root_of, code_part}
use Rattle.jl_entry.proofs.names.code_file.Goals as goal

pub returns : goal.returns
unfolding code_part
returns c = IfOk-weaker c.join.result _ _ (λ p e. record {
  formed = (c.requires.module_name, c.requires.function_name);
  is = e ∙ ap (λ r. r ++ code_part ∷ []) c.in_ok-folder.ensures ∙ append_assoc (root_of c.args.location.now) (c.args.«module».now ∷ c.args.name.now ∷ []) (code_part ∷ []);
}) c.join.ensures
