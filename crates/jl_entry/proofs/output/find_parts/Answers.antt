use Rattle.std.proofs.Common.{sym, ap, ◌∙◌, arith}
use Rattle.jl_value.specs.Form.{tree_of}
use Rattle.jl_entry.proofs.Entries.{four, part_at, args_same}
use Rattle.jl_entry.proofs.output.find_parts.Goals as goal

pub returns-then-members-lt4-clause-found : goal.returns-then-members-lt4-clause-found
returns-then-members-lt4-clause-found c code ps t e =
    let len = four c.args.whole.now c.in-Table.table c.in-Table.is c.members-members.result.now c.members-members.ensures.members code ps t e in omega arith

pub returns-clause-found : goal.returns-clause-found
returns-clause-found c code ps t e =
    let es = c.members-members.result.now in
    let at = part_at c.args.whole.now c.in-Table.table c.in-Table.is es c.members-members.ensures.members code ps t e in
    let first = sym (ap tree_of c.in-Table-1₀.is) ∙ ap (λ d. tree_of d.1) (sym c.index-members-0.is) ∙ at 0 c.index-members-0.result (omega arith) c.index-members-0.is in
    let second = sym (ap tree_of c.in-Text.is) ∙ ap (λ d. tree_of d.1) (sym c.index-members-1.is) ∙ at 1 c.index-members-1.result (omega arith) c.index-members-1.is in
    let last = at 3 c.index-members-3.result (omega arith) c.index-members-3.is in
    (args_same c.in-Table-1₀.args ps first, cc, ap (λ d. tree_of d.1) (sym c.index-members-3.is) ∙ last)
