use Rattle.std.proofs.Common.{◌≡◌, max, ap, ◌∙◌, arith}
use Rattle.jl_lexer.specs.Trees.{height, members_of, members_height}
use Rattle.jl_lexer.proofs.HeightLemmas.{members_higher}
use Rattle.jl_lexer.proofs.tree.Members.with.Goals as goal

pub invariant_of-result : goal.invariant_of-result
invariant_of-result c =
    let more : members_height (members_of c.push.new.self.items) ≡ max (members_height (members_of c.self.inside.list.items)) (height c.args.member) = ap (λ es. members_height (members_of es)) c.in_ok-push.ensures.items ∙ members_higher c.self.inside.list.items c.args.member in
    (omega (arith, c.max-height.ensures, c.height.ensures.same, c.self.invariant.0), omega (arith, c.max-height.ensures, c.height.ensures.low, c.self.invariant.1))
