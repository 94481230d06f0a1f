use Rattle.std.proofs.Common.{[], ◌∷◌, ◌++◌, sym, ap, ◌∙◌}
use Rattle.jl_entry.proofs.codes.same_code.Goals as goal

pub returns : goal.returns
returns c =
    let text = ap (λ w. w ++ 10 ∷ []) c.as_bytes.ensures.value in (
      λ t. sym c.without_number_line.ensures ∙ c.is_line_of.ensures.0 t ∙ text,
      λ e. c.is_line_of.ensures.1 (c.without_number_line.ensures ∙ e ∙ sym text),
    )
