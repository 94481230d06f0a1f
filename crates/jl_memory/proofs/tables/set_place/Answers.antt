use Rattle.std.proofs.Common.{◌≡◌, sym, ◌∙◌, ap, [], ◌∷◌, ◌++◌, refl}
use Rattle.jl_memory.specs.Tables.{found, with_place}
use Rattle.jl_memory.proofs.TableLemmas.{found-with_place}
use Rattle.jl_memory.proofs.tables.set_place.Goals as goal

pub returns-in_ok-push-clause-ok : goal.returns-in_ok-push-clause-ok
returns-in_ok-push-clause-ok c = λ q.
    let none = c.if-not-set_first.ensures.none refl in
    let pushed : c.push.new.self.items ≡ with_place c.args.places.now.items c.args.path.now c.args.what =
    c.in_ok-push.ensures.items ∙ ap (λ es. es ++ (c.in_ok-copy.copy, c.args.what) ∷ []) none.0 ∙ ap (λ p. c.args.places.now.items ++ (p, c.args.what) ∷ []) c.in_ok-copy.ensures ∙ sym none.1 in
    ap (λ es. found es q) pushed ∙ found-with_place c.args.places.now.items c.args.path.now c.args.what q

pub returns-else-not-set_first-clause-ok : goal.returns-else-not-set_first-clause-ok
returns-else-not-set_first-clause-ok c = λ q.
    ap (λ es. found es q) (c.if-not-set_first.ensures.set refl) ∙ found-with_place c.args.places.now.items c.args.path.now c.args.what q
