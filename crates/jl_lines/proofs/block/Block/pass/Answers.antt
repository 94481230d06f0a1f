use Rattle.std.proofs.Common.{◌≤◌, length, drop, ◌∙◌, sym, ap, subst}
use Rattle.jl_lines.proofs.LineLemmas.{pass_is}
use Rattle.jl_lines.proofs.block.Block.pass.Goals as goal

pub returns : goal.returns
returns c = pass_is c.self.inside.bytes.items c.self.inside.at c.self.inside.end c.args.count (subst (λ l. c.args.count ≤ length l) (sym c.self.view_is) c.requires) ∙ ap (drop c.args.count) c.self.view_is
