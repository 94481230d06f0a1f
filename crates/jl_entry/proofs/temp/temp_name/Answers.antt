use Rattle.std.proofs.Common.{List, ℕ, [], ◌∷◌, ◌++◌, sym, subst, ◌∙◌}
use Rattle.std.proofs.lemmas.Result.{IfOk-weaker}
use Rattle.jl_entry.specs.Names.{IsTemp, suffix}
use Rattle.jl_entry.proofs.TempFacts.{temp_of-final}
use Rattle.jl_entry.proofs.temp.temp_name.Goals as goal

pub returns-clause-path : goal.returns-clause-path
returns-clause-path c = IfOk-weaker c.join_temp.result _ _ (λ p e. e ∙ (λ i. c.in_ok-folder.ensures i ++ (c.last_text.ensures.last i ++ suffix c.args.token.now) ∷ [])) c.join_temp.ensures.path

pub returns-clause-temporary : goal.returns-clause-temporary
returns-clause-temporary c root x h =
    let here = temp_of-final root x c.args.last.now c.args.token.now c.join_temp.ensures.of_token h in
    IfOk-weaker c.join_temp.result _ _ (λ p e. subst (λ (q : List (List ℕ)). IsTemp root x c.args.token.now q) (sym (e ∙ (λ i. c.in_ok-folder.ensures i ++ (c.last_text.ensures.last i ++ suffix c.args.token.now) ∷ []))) here) c.join_temp.ensures.path
