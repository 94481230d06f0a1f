use Rattle.std.proofs.Common.{w64, arith, rules}
use Rattle.std.specs.Prelude.{pos, ◌+ℤ◌}
use Rattle.std.proofs.lemmas.Int.{to_z-of_z, ints}
use Rattle.std.proofs.lemmas.Grind.{common_steps}
use Rattle.jl_builtins.specs.ProperLaws.{whole_bounds}
use Rattle.jl_builtins.proofs.CallLemmas.{from_more, from_all}
use Rattle.jl_builtins.proofs.calls.numbers_from.Goals as goal

pub members-preserved : goal.members-preserved
members-preserved c =
    let first = to_z-of_z w64 c.args.first c.ranges.first in
    let bounds = whole_bounds (c.args.first +ℤ pos c.args.count) c.requires in
    from_more _ _ _ c.members.made c.args.count c.members.members.items c.push.new.self.items
    (to_z-of_z w64 _ (first_of (omega (arith, ints), first_of (search rules, grind (arith, common_steps)))))
    c.members.invariant.0 c.members-test.true c.members.invariant.2 c.in_ok-push.ensures.items

pub returns : goal.returns
returns c = from_all _ c.args.first _ c.members.made c.args.count c.members.members.items (to_z-of_z w64 c.args.first c.ranges.first) c.members-test.false c.members.invariant.2
