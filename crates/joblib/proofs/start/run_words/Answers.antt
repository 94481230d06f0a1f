use Rattle.std.proofs.Common.{◌≡◌, List, ℕ, Option, map, string_bytes, rules, sym, subst}
use Rattle.joblib.specs.Tokens.{FirstGives, IsTokenOf, own_of}
use Rattle.joblib.proofs.StartLemmas.{with_both, runs_words}
use Rattle.joblib.proofs.start.run_words.Goals as goal

pub returns-clause-words : goal.returns-clause-words
returns-clause-words g c =
    let given : Option (List ℕ) = c.in_ok-given.given in
    let words : List (List ℕ) = map string_bytes c.args.words.now in
    let gives : FirstGives words given = search rules in
    let own : map string_bytes c.own_words-own.result.now ≡ own_of given words = search rules in
    let chosen : IsTokenOf given c.in_ok-token.token = search rules in
    with_both c.run_as.result _ _ _
    (λ r same runs. runs_words words _ given c.args.processors r.token _ r.status gives own (subst (IsTokenOf given) (sym same) chosen) runs)
    c.run_as.ensures.token c.run_as.ensures.words
