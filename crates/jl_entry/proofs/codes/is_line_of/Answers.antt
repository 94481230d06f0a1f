use Rattle.std.proofs.Common.{[], ◌∷◌, ◌++◌, Some, sym, ap, ◌∙◌}
use Rattle.std.proofs.lemmas.Bool.Decides.{Decides-eqb}
use Rattle.std.proofs.lemmas.List.{append_cancel_right}
use Rattle.std.proofs.lemmas.Slice.Eq.{strip_suffix_is, bytes_eq-Decides}
use Rattle.jl_entry.proofs.codes.is_line_of.Goals as goal

pub returns-in-Some : goal.returns-in-Some
returns-in-Some c =
    let found = c.in-Some.found.now in
    let text = c.args.text.now in
    let ends = strip_suffix_is Decides-eqb c.args.bytes.now (10 ∷ []) (Some c.in-Some.found) c.in-Some.ensures.cases in (
      λ t. ends ∙ ap (λ w. w ++ 10 ∷ []) ((bytes_eq-Decides found text).0 (sym c.eq.ensures ∙ t)),
      λ e. c.eq.ensures ∙ (bytes_eq-Decides found text).1 (append_cancel_right found text (10 ∷ []) (sym ends ∙ e)),
    )
