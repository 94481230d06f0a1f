use Rattle.std.proofs.Common.{◌+◌, ◌*◌, take}
use Rattle.jl_text.specs.Paths.{PathView}
use Rattle.jl_rely.specs.Claims.{Anywhere}
use Rattle.jl_clear.specs.declared.removing.Clear.TheVariants.{Cleared}
use Rattle.jl_clear.specs.Levels.{IsKindName, HoldsKind}
use Rattle.jl_clear.specs.Clearing.{Clears, Handled, Reached}
use Rattle.jl_clear.proofs.Depths.{level_depth, kind_depth}
use Rattle.jl_clear.proofs.walk.+clearing.Given as goal

-- six calls lead from a folder to one that stands in it
abbrev pub decreases-clear_names : goal.decreases-clear_names
decreases-clear_names g l = 6 * kind_depth l.kind + 5

abbrev pub decreases-clear_name : goal.decreases-clear_name
decreases-clear_name g l = 6 * kind_depth l.kind + 4

abbrev pub decreases-clear_path : goal.decreases-clear_path
decreases-clear_path g l = 6 * kind_depth l.kind + 3

abbrev pub decreases-clear_level : goal.decreases-clear_level
decreases-clear_level g l = 6 * level_depth l.level + 2

abbrev pub decreases-clear_listed : goal.decreases-clear_listed
decreases-clear_listed g l = 6 * level_depth l.level + 1

abbrev pub decreases-clear_inner : goal.decreases-clear_inner
decreases-clear_inner g l = 6 * level_depth l.level

-- the names so far were handled
abbrev pub invariant-clear_names-loop-name : goal.invariant-clear_names-loop-name
invariant-clear_names-loop-name g l =
    (root : PathView) → HoldsKind l.kind root l.home
    → Clears root Anywhere (Reached (IsKindName l.kind) l.home)
    (Handled (IsKindName l.kind) l.home (take l.name-index l.names))
    (Handled (IsKindName l.kind) l.home (take l.name-index l.names))
    Cleared (g.F.Folder.view l.fn.folder) (g.F.Folder.view l.folder)
