use Rattle.std.proofs.Common.{ℕ, List, sym, subst, arith}
use Rattle.std.proofs.lemmas.Result.{on_ok_weaker}
use Rattle.jl_value.specs.Tree.{Tree, members_of}
use Rattle.jl_value.specs.Form.{tree_of}
use Rattle.jl_value.specs.Proper.{IsProper, AreKeys, HasProper, keys}
use Rattle.jl_value.specs.declared.value.Value.{Value}
use Rattle.jl_value.proofs.Keys.{keys_entries}
use Rattle.jl_value.proofs.Heights.{height_item, height_entry}
use Rattle.jl_value.proofs.writing.+write.Goals as goal

pub write-returns-in_ok-begin_object-in-Table-clause-proper : goal.write-returns-in_ok-begin_object-in-Table-clause-proper
write-returns-in_ok-begin_object-in-Table-clause-proper t c =
    let ms = c.members.result.now in
    let all = subst AreKeys (sym (keys_entries ms)) c.members.ensures.keys in
    on_ok_weaker c.write_table.result
    (λ h. subst (λ (v : Value). IsProper (tree_of v)) (sym c.in-Table.is)
    (subst (λ (ps : List (List ℕ × Tree)). AreKeys (keys (members_of ps)) × HasProper (members_of ps)) c.members.ensures.members (all, h)))
    c.write_table.ensures.proper

pub write_list-write-requires : goal.write_list-write-requires
write_list-write-requires t c =
    let low = height_item c.args.members.now c.loop-member.member-index c.member-item.result c.loop-member-test.true c.member-item.is in
    (omega arith, tt)

pub write_table-write-requires : goal.write_table-write-requires
write_table-write-requires t c =
    let low = height_entry c.args.members.now c.loop-key.key-index c.loop-key-item.result c.loop-key-test.true c.loop-key-item.is in
    (omega arith, tt)
