use Rattle.std.proofs.Common.{ap, arith}
use Rattle.jl_lexer.specs.Trees.{height}
use Rattle.jl_lexer.proofs.HeightLemmas.{member_height, entry_height}
use Rattle.jl_module.proofs.known.+known.Goals as goal

pub members_known-are_known-requires : goal.members_known-are_known-requires
members_known-are_known-requires t c =
    let low = member_height c.args.members.now c.loop-member.member-index c.member-item.result c.loop-member-test.true c.member-item.is in
    (omega arith, tt)

pub entries_known-are_known-requires : goal.entries_known-are_known-requires
entries_known-are_known-requires t c =
    let low = entry_height c.args.entries.now c.loop-entry.entry-index c.entry-item.result c.loop-entry-test.true c.entry-item.is in
    (omega (arith, ap height c.member.ensures), tt)
