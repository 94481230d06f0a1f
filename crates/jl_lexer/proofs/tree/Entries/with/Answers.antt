use Rattle.std.proofs.Common.{◌≡◌, max, ap, ◌∙◌, arith}
use Rattle.jl_lexer.specs.Trees.{height, entries_of, entries_height}
use Rattle.jl_lexer.proofs.HeightLemmas.{entries_higher}
use Rattle.jl_lexer.proofs.tree.Entries.with.Goals as goal

pub invariant_of-result : goal.invariant_of-result
invariant_of-result c =
    let more : entries_height (entries_of c.push.new.self.items) ≡ max (entries_height (entries_of c.self.inside.list.items)) (height c.args.member) = ap (λ es. entries_height (entries_of es)) c.in_ok-push.ensures.items ∙ entries_higher c.self.inside.list.items c.args.key c.args.member in
    (omega (arith, c.max-height.ensures, c.height.ensures.same, c.self.invariant.0), omega (arith, c.max-height.ensures, c.height.ensures.low, c.self.invariant.1))
