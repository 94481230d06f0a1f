use Rattle.std.proofs.Common.{◌-◌, ◌^◌, List, ℕ, min, sym, ap, ◌∙◌}
use Rattle.std.specs.Prelude.{Some, None}
use Rattle.jl_value.specs.Tree.{Tree, table, members_of}
use Rattle.jl_value.specs.Form.{entries_of}
use Rattle.jl_value.specs.declared.value.Value.{Value}
use Rattle.jl_operands.specs.Steps.{done, members_weight}
use Rattle.jl_operands.specs.Outcomes.{pairs_in}
use Rattle.jl_operands.proofs.CountLemmas.{counted_is, table_weight}
use Rattle.jl_operands.proofs.TableLemmas.{keys_there}
use Rattle.jl_operands.proofs.counting.count_table.Goals as goal

pub table_of-requires : goal.table_of-requires
table_of-requires c = keys_there c.in_ok-members.members.items _ c.in_ok-members.ensures c.requires

pub returns-in-Some : goal.returns-in-Some
returns-in-Some c =
    let members = c.members_weight.ensures
    ∙ ap (λ (l : List (List ℕ × Value)). min (members_weight (members_of (entries_of l))) (2 ^ 64 - 1)) c.as_slice.ensures.value
    ∙ ap (λ (l : List (List ℕ × Tree)). min (members_weight (members_of l)) (2 ^ 64 - 1)) c.in_ok-members.ensures in
    counted_is (Some c.in-Some.steps) c.args.steps c.saturating_add.result (table (members_of (pairs_in c.args.members.entries)))
    (table_weight (members_of (pairs_in c.args.members.entries)) c.members_weight.result c.saturating_add.result members c.saturating_add.ensures)
    c.in-Some.ensures
    ∙ ap (λ (t : Tree). done t c.in-Some.steps) (sym (c.table_of.ensures ∙ ap (λ (l : List (List ℕ × Tree)). table (members_of l)) c.in_ok-members.ensures))

pub returns-in-None : goal.returns-in-None
returns-in-None c =
    let members = c.members_weight.ensures
    ∙ ap (λ (l : List (List ℕ × Value)). min (members_weight (members_of (entries_of l))) (2 ^ 64 - 1)) c.as_slice.ensures.value
    ∙ ap (λ (l : List (List ℕ × Tree)). min (members_weight (members_of l)) (2 ^ 64 - 1)) c.in_ok-members.ensures in
    counted_is None c.args.steps c.saturating_add.result (table (members_of (pairs_in c.args.members.entries)))
    (table_weight (members_of (pairs_in c.args.members.entries)) c.members_weight.result c.saturating_add.result members c.saturating_add.ensures)
    c.in-None.ensures
