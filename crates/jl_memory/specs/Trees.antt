-- A folder as it begins, and when it is a state.
use Rattle.std.specs.Prelude.{◌≡◌, ℕ, [], false, true, Some, IsSome}
use Rattle.jl_folder.specs.declared.moves.Place.TheVariants.{File}
use Rattle.jl_text.specs.Paths.{PathView, is_fixed}
use Rattle.jl_folder.specs.State.{place_at, node_at, has_parent}
use Rattle.jl_memory.specs.declared.tree.Tree.{Tree}
use Rattle.jl_memory.specs.Tables.{state_of}

-- nothing but the two folders that are always there
abbrev pub empty_tree : Tree
empty_tree = record { folders = []; names = []; nodes = [] }

-- the path stands rightly in the tree: below a folder, and, where it names a file, with that file's node
pub record StandsWell (t : Tree) (p : PathView) : Type 0 where
  pub parent : is_fixed p ≡ false → has_parent (state_of t) p ≡ true
  pub node : (n : ℕ) → place_at (state_of t) p ≡ Some (File n) → IsSome (node_at (state_of t) n)
