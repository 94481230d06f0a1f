use Rattle.std.proofs.Common.{refl, ap, ap₂, ◌∙◌, w64}
use Rattle.std.specs.Prelude.{◌-ℤ◌, Some, None}
use Rattle.std.proofs.lemmas.Int.{to_z-of_z}
use Rattle.jl_builtins.specs.Calls.{members_to, items_from}
use Rattle.jl_builtins.proofs.CallLemmas.{range_made, range_over}
use Rattle.jl_builtins.proofs.calls.range.Goals as goal

pub returns-in_ok-numbers_from-in-Some : goal.returns-in_ok-numbers_from-in-Some
returns-in_ok-numbers_from-in-Some c =
    let first = to_z-of_z w64 c.args.first c.ranges.first in
    let end = to_z-of_z w64 c.args.end c.ranges.end in
    range_made (Some c.in-Some.steps) c.args.steps c.saturating_add.result c.members_between-members.result c.in-Some.steps c.args.first c.args.end c.in_ok-numbers_from-in-Some.field-0.items
    (c.members_between-members.ensures ∙ ap₂ (λ x y. members_to (x -ℤ y)) end first)
    c.saturating_add.ensures c.in-Some.ensures refl
    (c.in_ok-numbers_from-in-Some.ensures ∙ ap (λ z. items_from z c.members_between-members.result) first)

pub returns-in-None : goal.returns-in-None
returns-in-None c =
    let first = to_z-of_z w64 c.args.first c.ranges.first in
    let end = to_z-of_z w64 c.args.end c.ranges.end in
    range_over None c.args.steps c.saturating_add.result c.members_between-members.result c.args.first c.args.end
    (c.members_between-members.ensures ∙ ap₂ (λ x y. members_to (x -ℤ y)) end first)
    c.saturating_add.ensures c.in-None.ensures refl
