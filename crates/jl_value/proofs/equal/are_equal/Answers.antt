use Rattle.std.proofs.Common.{sym, ◌∙◌}
use Rattle.jl_value.specs.Form.{tree_of}
use Rattle.jl_value.specs.Sameness.{tree_same}
use Rattle.jl_value.proofs.equal.are_equal.Goals as goal

pub returns : goal.returns
returns c = let d = tree_same (tree_of c.args.a.now) (tree_of c.args.b.now) in let e = c.eq.ensures in (λ t. d.0 (sym e ∙ t), λ s. e ∙ d.1 s)
