use Rattle.std.proofs.Common.{ℕ, List, subst}
use Rattle.jl_store.specs.Checking.{IsHeld}
use Rattle.jl_store.proofs.CheckLemmas.{holds_read}
use Rattle.jl_store.proofs.checking.held.Goals as goal

pub returns-in-Bytes-clause-holds : goal.returns-in-Bytes-clause-holds
returns-in-Bytes-clause-holds g c = λ t. holds_read _ _ _ c.compare.result _ _ (c.in-Bytes.ensures.reads t) (subst (λ (b : List ℕ). IsHeld c.compare.result b c.args.code.now) c.as_slice.ensures c.compare.ensures)
