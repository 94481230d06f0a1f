use Rattle.std.proofs.Common.{[], ◌∷◌, ◌++◌, ap, ◌∙◌, append_assoc}
use Rattle.std.proofs.lemmas.Result.{IfOk-weaker}
use Rattle.hex.specs.Hex.{encode_lower}
use Rattle.jl_text.specs.Paths.{is_part}
use Rattle.jl_entry.specs.Names.{root_of, entry_part}
use Rattle.jl_entry.proofs.names.entry_file.Goals as goal

pub join-requires : goal.join-requires
join-requires c = ap is_part c.file_name.ensures.name ∙ c.file_name.ensures.part

pub returns : goal.returns
returns c = IfOk-weaker c.join.result _ _ (λ p e. record {
  formed = (c.requires.module_name, c.requires.function_name, c.in_ok-folder.ensures.key);
  is = e ∙ (λ i. c.in_ok-folder.ensures.path i ++ c.file_name.ensures.name i ∷ [])
      ∙ append_assoc (root_of c.args.location.now) (c.args.«module».now ∷ c.args.name.now ∷ encode_lower c.args.key.now.0 ∷ []) (entry_part c.args.file ∷ []);
}) c.join.ensures
