use Rattle.std.proofs.Common.{refl, length, sym, ap, ◌∙◌, w64}
use Rattle.std.proofs.lemmas.Int.{to_z-of_z}
use Rattle.jl_builtins.specs.Operations.{place_of}
use Rattle.jl_operands.specs.Steps.{operated}
use Rattle.jl_operands.proofs.CountLemmas.{runs_by}
use Rattle.jl_builtins.proofs.OperationLemmas.{item_placed, item_missing}
use Rattle.jl_builtins.proofs.operations.item.Goals as goal

-- the item at the place is counted and copied
pub returns-in-Some : goal.returns-in-Some
returns-in-Some c =
    let placed = item_placed c.args.items.now c.args.at c.in-Some.place c.index-items-place.result c.index-items-place.result
    (sym (c.place.ensures ∙ ap (place_of (length c.args.items.now)) (to_z-of_z w64 c.args.at c.ranges.at)) ∙ c.in-Some.is)
    c.index-items-place.is refl in
    runs_by c.count_copy.result _ _ (sym (ap (operated c.args.steps) placed)) c.count_copy.ensures

-- there is no such place
pub returns-in-None : goal.returns-in-None
returns-in-None c =
    let missing = item_missing c.args.items.now c.args.at (sym (c.place.ensures ∙ ap (place_of (length c.args.items.now)) (to_z-of_z w64 c.args.at c.ranges.at)) ∙ c.in-None.is) in
    ap (operated c.args.steps) missing
