use Rattle.std.proofs.Common.{◌≡◌, sym, ◌∙◌, ap, true, false, None, cond, refl}
use Rattle.jl_text.specs.Paths.{path_eq}
use Rattle.jl_memory.specs.Tables.{found}
use Rattle.jl_memory.proofs.TableLemmas.{found-with_place, found-push_none}
use Rattle.jl_memory.proofs.tables.clear_place.Goals as goal

pub returns : goal.returns
returns c = λ q.
    elim c.set_first-set.result as (λ b. c.set_first-set.result ≡ b → found c.set_first-set.new.places.items q ≡ cond (path_eq q c.args.path.now) None (found c.args.places.now.items q)) [
      | true ↦ λ is. ap (λ es. found es q) (c.set_first-set.ensures.set is) ∙ found-with_place c.args.places.now.items c.args.path.now None q
      | false ↦ λ is. let none = c.set_first-set.ensures.none is in
          ap (λ es. found es q) none.0 ∙ sym (found-push_none c.args.places.now.items c.args.path.now q) ∙ ap (λ es. found es q) (sym none.1) ∙ found-with_place c.args.places.now.items c.args.path.now None q
    ] refl
