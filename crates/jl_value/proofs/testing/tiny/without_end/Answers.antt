use Rattle.std.proofs.Common.{◌≡◌, ◌-◌, List, ℕ, Bor, true, false, length, suc, sym, ◌∙◌, arith}
use Rattle.std.proofs.lemmas.Bool.{eqb-false}
use Rattle.jl_value.proofs.TinyLemmas.{cut_last}
use Rattle.jl_value.proofs.testing.tiny.without_end.Goals as goal

pub returns-then-is_empty-2 : goal.returns-then-is_empty-2
returns-then-is_empty-2 c =
    let some = eqb-false (length c.args.pieces.now) 0 (sym c.is_empty.ensures ∙ c.if-is_empty.false) in
    let at : length c.args.pieces.now ≡ suc (length c.args.pieces.now - 1) = omega arith in
    sym (cut_last (λ (x : Bor (List ℕ)). x.now) c.args.pieces.now (length c.args.pieces.now - 1) _ true at (sym c.is_empty-2.ensures ∙ c.if-is_empty-2.true))

pub returns : goal.returns
returns c =
    let some = eqb-false (length c.args.pieces.now) 0 (sym c.is_empty.ensures ∙ c.if-is_empty.false) in
    let at : length c.args.pieces.now ≡ suc (length c.args.pieces.now - 1) = omega arith in
    sym (cut_last (λ (x : Bor (List ℕ)). x.now) c.args.pieces.now (length c.args.pieces.now - 1) _ false at (sym c.is_empty-2.ensures ∙ c.if-is_empty-2.false))
