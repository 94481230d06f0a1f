use Rattle.std.proofs.Common.{◌≡◌, List, ◌++◌, drop, map, string_bytes}
use Rattle.serde_json.specs.View.{items_view, members_view}
use Rattle.serde_json.proofs.Views.{Entry}
use Rattle.jl_value.specs.Form.{trees_of, entries_of, keys_in}
use Rattle.jl_value.specs.Reading.{mapped, walk_items, walk_members}
use Rattle.jl_value.specs.Walked.{items_before, members_before}
use Rattle.jl_value.specs.Proper.{AreProper, HasProper}
use Rattle.jl_value.specs.Tree.{items_of, members_of}
use Rattle.jl_value.proofs.reading.+walk.Given as goal

abbrev pub invariant-walk_items-loop-item : goal.invariant-walk_items-loop-item
invariant-walk_items-loop-item l =
    (walk_items l.depth (items_view l.items.items) ≡ mapped (items_before (trees_of l.found.items)) (walk_items l.depth (items_view (drop l.item-index l.items.items))))
    × AreProper (items_of (trees_of l.found.items))

abbrev pub invariant-walk_members-loop-key : goal.invariant-walk_members-loop-key
invariant-walk_members-loop-key l =
    (done : List Entry)
    × (l.members.entries ≡ done ++ l.key-iterator)
    × (walk_members l.depth (members_view l.members.entries) ≡ mapped (members_before (entries_of l.found.items)) (walk_members l.depth (members_view l.key-iterator)))
    × HasProper (members_of (entries_of l.found.items))
    × (keys_in l.found.items ≡ map (λ e. string_bytes e.0) done)
