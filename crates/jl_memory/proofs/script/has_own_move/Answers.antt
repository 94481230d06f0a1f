use Rattle.std.proofs.Common.{◌≡◌, suc, ◌∷◌, drop, sym, ◌∙◌, ap, subst, true≢false, add-one}
use Rattle.std.proofs.Math.Seq.{drop-cons}
use Rattle.std.proofs.lemmas.List.{drop_all}
use Rattle.std.proofs.lemmas.Slice.Eq.{bytes_eq-Decides}
use Rattle.jl_folder.specs.State.{IsForeign}
use Rattle.jl_memory.proofs.ForeignLemmas.{foreign_at}
use Rattle.jl_memory.proofs.script.has_own_move.Goals as goal

pub loop-entry-preserved : goal.loop-entry-preserved
loop-entry-preserved c = λ rest.
    let moves = c.args.moves.now in
    let token = c.args.token.now in
    let i = c.loop-entry.entry-index in
    let x = c.entry-item.result in
    let here : drop i moves ≡ x ∷ drop (suc i) moves = drop-cons moves i x c.loop-entry-test.true ∙ ap (λ y. y ∷ drop (suc i) moves) (sym c.entry-item.is) in
    let later : IsForeign token (drop (suc i) moves) = subst (λ k. IsForeign token (drop k moves)) (add-one i) rest in
    c.loop-entry.invariant (subst (IsForeign token) (sym here) ((λ same. true≢false (sym ((bytes_eq-Decides x.0 token).1 same) ∙ sym c.eq.ensures ∙ c.if-eq.false)), later))

pub returns-clause-none : goal.returns-clause-none
returns-clause-none c = λ _. c.loop-entry.invariant (subst (IsForeign c.args.token.now) (sym (drop_all c.loop-entry.entry-index c.args.moves.now c.loop-entry-test.false)) tt)

pub returns-then-eq-clause-some : goal.returns-then-eq-clause-some
returns-then-eq-clause-some c = λ _ foreign.
    let x = c.entry-item.result in
    let other : x.0 ≡ c.args.token.now → ⊥ = foreign_at c.args.token.now c.args.moves.now c.loop-entry.entry-index x c.loop-entry-test.true c.entry-item.is foreign in
    other ((bytes_eq-Decides x.0 c.args.token.now).0 (sym c.eq.ensures ∙ c.if-eq.true))
