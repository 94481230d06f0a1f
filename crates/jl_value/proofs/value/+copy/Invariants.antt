use Rattle.std.proofs.Common.{◌≡◌, take}
use Rattle.jl_value.proofs.value.+copy.Given as goal

abbrev pub invariant-List::copy-loop-member : goal.invariant-List::copy-loop-member
invariant-List::copy-loop-member l = l.copies.items ≡ take l.member-index l.member-items

abbrev pub invariant-Table::copy-loop-key : goal.invariant-Table::copy-loop-key
invariant-Table::copy-loop-key l = l.copies.items ≡ take l.key-index l.key-items
