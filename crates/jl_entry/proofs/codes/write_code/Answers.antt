use Rattle.std.proofs.Common.{ℕ, List, sym, subst, arith}
use Rattle.std.proofs.lemmas.Result.{IfOk-weaker}
use Rattle.jl_entry.specs.Codes.{IsSameCode}
use Rattle.jl_entry.proofs.CodeFacts.{same_written}
use Rattle.jl_entry.proofs.codes.write_code.Goals as goal

pub returns-clause-same : goal.returns-clause-same
returns-clause-same c =
    let same = same_written c.args.code.now c.args.line (omega arith) in
    IfOk-weaker c.code_lines.result _ _ (λ b e. subst (λ (w : List ℕ). IsSameCode c.args.code.now w) (sym e) same) c.code_lines.ensures
