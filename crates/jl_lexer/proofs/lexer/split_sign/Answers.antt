use Rattle.std.proofs.Common.{ap, ◌∙◌, take, drop, get_or, add-one}
use Rattle.jl_lexer.specs.Signs.{sign_run}
use Rattle.jl_lexer.proofs.SignLemmas.{sign_split, rest_is}
use Rattle.jl_lexer.proofs.lexer.split_sign.Goals as goal

pub returns-clause-signs : goal.returns-clause-signs
returns-clause-signs c =
    let s = c.args.bytes.now in
    let n = c.sign_run-run.result in
    sign_split s c.split_at.result.0.now c.split_at.result.1.now n c.requires.some c.requires.first
    (c.sign_run-run.ensures.same ∙ ap (sign_run (get_or s 0 0)) (rest_is s 1))
    (c.split_at.ensures.front ∙ ap (λ k. take k s) (add-one n))
    (c.split_at.ensures.back ∙ ap (λ k. drop k s) (add-one n))
