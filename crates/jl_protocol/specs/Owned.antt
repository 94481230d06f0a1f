-- What survives the proper steps of others.
use Rattle.std.specs.Prelude.{◌≡◌, ℕ, true, false, List, Some}
use Rattle.jl_text.specs.Paths.{PathView}
use Rattle.jl_folder.specs.declared.moves.Place.TheVariants.{File}
use Rattle.jl_folder.specs.declared.moves.Node.{Node}
use Rattle.jl_folder.specs.State.{State, place_at, node_at}
use Rattle.jl_entry.specs.Names.{IsBelow}

-- the node is this run's, unfrozen and with these bytes; no path but the temporary name names it, and where that names a file it is this one
pub record IsOwnFile (token : List ℕ) (temp : PathView) (n : ℕ) (bytes : List ℕ) (s : State) : Type 0 where
  pub node : node_at s n ≡ Some (record { bytes = bytes; maker = token; frozen = false })
  pub only : (p : PathView) → place_at s p ≡ Some (File n) → p ≡ temp
  pub there : (m : ℕ) → place_at s temp ≡ Some (File m) → m ≡ n

-- a frozen node with these bytes, which no path outside the root names
pub record IsKept (root : PathView) (n : ℕ) (bytes : List ℕ) (s : State) : Type 0 where
  pub node : Node
  pub is : node_at s n ≡ Some node
  pub frozen : node.frozen ≡ true
  pub same : node.bytes ≡ bytes
  pub inside : (p : PathView) → place_at s p ≡ Some (File n) → IsBelow root p
