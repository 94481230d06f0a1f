use Rattle.std.proofs.Common.{◌≡◌, Bor, List, ℕ, map, ap, ◌∙◌, subst}
use Rattle.std.specs.Prelude.{IfOk}
use Rattle.jl_value.specs.Tiny.{as_text, without_empty_last}
use Rattle.jl_value.proofs.TinyLemmas.{map-pieces}
use Rattle.jl_value.proofs.testing.tiny.split_lines.Goals as goal

pub returns : goal.returns
returns c =
    let pieces = ap (map (λ (p : Bor (List ℕ)). p.now)) c.as_slice.ensures.value ∙ c.in_ok-pieces.ensures in
    let lines = map-pieces c.without_end.result.now ∙ ap (map as_text) (c.without_end.ensures ∙ ap without_empty_last pieces) in
    subst (λ ls. IfOk c.copy_pieces.result (λ v. v.items ≡ ls)) lines c.copy_pieces.ensures
