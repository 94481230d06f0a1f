use Rattle.std.proofs.Common.{◌≡◌, [], ◌∷◌, ◌++◌, ◌∙◌, append_assoc}
use Rattle.std.proofs.lemmas.Result.{IfOk-weaker}
use Rattle.hex.specs.Hex.{encode_lower}
use Rattle.jl_entry.specs.Names.{root_of}
use Rattle.jl_entry.proofs.names.entry_folder.Goals as goal

pub returns-clause-path : goal.returns-clause-path
returns-clause-path c = IfOk-weaker c.join_digits.result _ _ (λ p e.
    let digits : c.as_slice.result.now ≡ c.args.key.now.0 = cc in
    e ∙ (λ i. c.in_ok-folder.ensures i ++ encode_lower (digits i) ∷ [])
    ∙ append_assoc (root_of c.args.location.now) (c.args.«module».now ∷ c.args.name.now ∷ []) (encode_lower c.args.key.now.0 ∷ [])) c.join_digits.ensures.path
