use Rattle.std.proofs.Common.{ℕ, List, subst}
use Rattle.jl_store.specs.Looking.{IsJudged}
use Rattle.jl_store.proofs.LookLemmas.{finds_read}
use Rattle.jl_store.proofs.looking.find.Goals as goal

pub returns-in-Bytes-clause-finds : goal.returns-in-Bytes-clause-finds
returns-in-Bytes-clause-finds g c = λ t code ps of. finds_read _ _ _ _ c.judge.result _ _ (c.in-Bytes.ensures.reads t) (subst (λ (b : List ℕ). IsJudged c.judge.result b code ps) c.as_slice.ensures (c.judge.ensures.judged code ps of))
