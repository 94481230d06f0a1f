use Rattle.std.proofs.Common.{◌≡◌, ap, ◌∙◌, arith}
use Rattle.std.proofs.lemmas.Result.{IfOk-weaker}
use Rattle.hex.specs.Hex.{encode_lower}
use Rattle.jl_text.specs.Paths.{is_part}
use Rattle.jl_entry.proofs.KeyFacts.{key_is_part, key_is_key}
use Rattle.jl_entry.proofs.names.join_digits.Goals as goal

pub join-requires : goal.join-requires
join-requires c =
    let text : c.as_str.result.now ≡ encode_lower c.args.key.now = c.as_str.ensures.value ∙ c.in_ok-digits.ensures in
    ap is_part text ∙ key_is_part c.args.key.now (λ k lt. omega (arith, c.type_inv.key k)) c.requires

pub returns-clause-key : goal.returns-clause-key
returns-clause-key c = IfOk-weaker c.join.result _ _ (λ p e. key_is_key c.args.key.now (λ k lt. omega (arith, c.type_inv.key k)) c.requires) c.join.ensures
