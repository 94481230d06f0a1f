use Rattle.std.proofs.Common.{◌+◌, ◌*◌, take, Ok}
use Rattle.jl_text.specs.Paths.{PathView}
use Rattle.jl_clear.proofs.Depths.{level_depth}
use Rattle.jl_evict.specs.Walks.{Adds, IsAt, Under, AreDistinct, HoldsParts}
use Rattle.jl_evict.proofs.walk.+adding.Given as goal

-- four calls lead from a folder to one that stands in it
abbrev pub decreases-add_folders : goal.decreases-add_folders
decreases-add_folders g l = 4 * level_depth l.level + 3

abbrev pub decreases-add_names : goal.decreases-add_names
decreases-add_names g l = 4 * level_depth l.level + 2

abbrev pub decreases-add_name : goal.decreases-add_name
decreases-add_name g l = 4 * level_depth l.level + 1

abbrev pub decreases-add_level : goal.decreases-add_level
decreases-add_level g l = 4 * level_depth l.level

-- the items at the names so far were added
abbrev pub invariant-add_names-loop-name : goal.invariant-add_names-loop-name
invariant-add_names-loop-name g l =
    (root : PathView) → IsAt root (HoldsParts l.level) l.place
    → Adds root (AreDistinct l.names) (Under l.place.name (take l.name-index l.names)) (Ok tt)
    l.fn.items.items l.items.items (g.F.Folder.view l.fn.folder) (g.F.Folder.view l.folder)
