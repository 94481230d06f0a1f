-- What an open number's node has, whatever its names are.
use Rattle.std.specs.Prelude.{◌≡◌, ℕ, List, Some}
use Rattle.jl_folder.specs.declared.moves.Node.{Node}
use Rattle.jl_folder.specs.declared.moves.OpenFile.{OpenFile}
use Rattle.jl_folder.specs.State.{node_at}
use Rattle.jl_folder.specs.Views.{FolderView, state}

-- the number is open, and its node's bytes have P
pub record OpenHas (number : ℕ) (P : List ℕ → Type 0) (v : FolderView) : Type 0 where
  pub file : OpenFile
  pub is_open : v.opens number ≡ Some file
  pub node : Node
  pub node_is : node_at (state v) file.node ≡ Some node
  pub has : P node.bytes
