use Rattle.std.proofs.Common.{◌≡◌, ◌++◌, drop, option_map}
use Rattle.serde_json.specs.View.{items_view}
use Rattle.jl_value.specs.Reading.{wholes_in}
use Rattle.jl_value.specs.Proper.{AllFitI64}
use Rattle.jl_value.proofs.reading.wholes.Given as goal

abbrev pub invariant-loop-item : goal.invariant-loop-item
invariant-loop-item l =
    (wholes_in (items_view l.item-items) ≡ option_map (λ zs. l.found.items ++ zs) (wholes_in (items_view (drop l.item-index l.item-items))))
    × AllFitI64 l.found.items
