use Rattle.std.proofs.Common.{◌≡◌, ◌++◌, ◌∷◌, [], sym, ◌∙◌, ap, subst, true≢false}
use Rattle.std.proofs.lemmas.List.{same_from_push}
use Rattle.jl_text.specs.Paths.{IsPath}
use Rattle.jl_folder.proofs.PathLemmas.{path_eq-Decides}
use Rattle.jl_memory.proofs.ChildLemmas.{not_empty, last_is_part}
use Rattle.jl_memory.proofs.children.child_part.Goals as goal

pub returns-then-not-is-clause-apart : goal.returns-then-not-is-clause-apart
returns-then-not-is-clause-apart c = λ part below.
    let parts : c.args.child.now ≡ c.in_ok-part.parents.now ++ c.in_ok-part.part.now ∷ [] = sym c.parts.ensures.same ∙ c.in_ok-part.ensures.cases.0 in
    let parents_same = (same_from_push c.in_ok-part.parents.now c.args.path.now c.in_ok-part.part.now part (sym parts ∙ below.path)).0 in
    true≢false (sym ((path_eq-Decides c.in_ok-part.parents.now c.args.path.now).1 parents_same) ∙ sym c.is.ensures ∙ c.if-not-is.true)

pub returns-clause-below : goal.returns-clause-below
returns-clause-below c =
    let parts : c.args.child.now ≡ c.in_ok-part.parents.now ++ c.in_ok-part.part.now ∷ [] = sym c.parts.ensures.same ∙ c.in_ok-part.ensures.cases.0 in
    let parents_same = (path_eq-Decides c.in_ok-part.parents.now c.args.path.now).0 (sym c.is.ensures ∙ c.if-not-is.false) in
    record {
      path = parts ∙ ap (λ p. p ++ c.in_ok-part.part.now ∷ []) parents_same;
      named = λ empty. not_empty c.in_ok-part.part.now c.as_str.result.now (sym c.as_str.ensures) (sym c.is_empty.ensures ∙ c.if-is_empty.false) empty;
    }

pub returns-clause-part : goal.returns-clause-part
returns-clause-part c =
    let parts : c.args.child.now ≡ c.in_ok-part.parents.now ++ c.in_ok-part.part.now ∷ [] = sym c.parts.ensures.same ∙ c.in_ok-part.ensures.cases.0 in
    last_is_part c.in_ok-part.parents.now c.in_ok-part.part.now (subst IsPath parts c.parts.ensures.path)
    (λ empty. not_empty c.in_ok-part.part.now c.as_str.result.now (sym c.as_str.ensures) (sym c.is_empty.ensures ∙ c.if-is_empty.false) empty)
