use Rattle.std.proofs.Common.{◌≡◌, true, false, ap, ◌∙◌, rules}
use Rattle.jl_text.specs.Texts.{is_token}
use Rattle.joblib.specs.Tokens.{moment_token}
use Rattle.joblib.proofs.HexLemmas.{is_token-moment}
use Rattle.joblib.proofs.token.token_at.Goals as goal

pub unreachable-requires : goal.unreachable-requires
unreachable-requires c =
    let e : c.as_str.result.now ≡ moment_token c.args.moment = search rules in
    let good : is_token c.as_str.result.now ≡ true = ap is_token e ∙ is_token-moment c.args.moment c.ranges.moment.fits in
    let bad : is_token c.as_str.result.now ≡ false = c.in-Err-BadToken.ensures.read c.in-Err-BadToken.field-0-is in
    cc
