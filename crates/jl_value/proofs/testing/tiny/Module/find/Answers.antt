use Rattle.std.proofs.Common.{◌≡◌, ap, ◌∙◌, subst, Some, None}
use Rattle.std.specs.Prelude.{MatchOption}
use Rattle.jl_value.specs.Tiny.{code_in, line_in, tiny_lines}
use Rattle.jl_value.proofs.TinyLemmas.{code_in-texts, line_in-texts}
use Rattle.jl_value.proofs.testing.tiny.Module.find.Goals as goal

pub returns : goal.returns
returns c =
    let lines = c.as_slice.ensures.value ∙ c.args.self.now.cut in
    let name = c.args.name.now in
    let code = ap (λ ls. code_in ls name) lines ∙ code_in-texts (tiny_lines c.args.self.now.bytes) name in
    let at = ap (λ ls. line_in 1 ls name) lines ∙ line_in-texts (tiny_lines c.args.self.now.bytes) 1 name in
    subst (λ o. MatchOption c.find_line.result (o ≡ None) (λ r. (o ≡ Some r.code.now) × (line_in 1 (tiny_lines c.args.self.now.bytes) name ≡ r.line))) code
    (subst (λ n. MatchOption c.find_line.result (code_in c.as_slice.result.now name ≡ None) (λ r. (code_in c.as_slice.result.now name ≡ Some r.code.now) × (n ≡ r.line))) at c.find_line.ensures)
