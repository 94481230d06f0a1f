-- When the parts of two trees are one.
use Rattle.std.specs.Prelude.{ℕ, List, Bool, ◌&&◌, nat_eq}
use Rattle.std.specs.Cmp.Lexicographic.{pointwise}
use Rattle.jl_text.specs.Paths.{PathView, path_eq}
use Rattle.jl_folder.specs.declared.moves.Node.{Node}
use Rattle.jl_folder.specs.Same.{node_eq}

-- whether two lists of paths are one
abbrev pub paths_eq : List PathView → List PathView → Bool
paths_eq = pointwise path_eq

-- whether two names with their places are one
abbrev pub file_eq : PathView × ℕ → PathView × ℕ → Bool
file_eq a b = path_eq a.0 b.0 && nat_eq a.1 b.1

-- whether two lists of names are one
abbrev pub files_eq : List (PathView × ℕ) → List (PathView × ℕ) → Bool
files_eq = pointwise file_eq

-- whether two lists of nodes are one
abbrev pub nodes_eq : List Node → List Node → Bool
nodes_eq = pointwise node_eq
