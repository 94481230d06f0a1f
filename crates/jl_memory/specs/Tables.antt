-- The tables of a folder in memory, and the state that they stand for.
use Rattle.std.specs.Prelude.{◌≡◌, ℕ, List, [], ◌∷◌, ◌++◌, Bool, cond, Option, None, Some, nat_eq, map}
use Rattle.std.specs.List.{enumerate_from}
use Rattle.std.specs.FinMap as finmap
use Rattle.jl_folder.specs.declared.moves.Place.{Place}
use Rattle.jl_folder.specs.declared.moves.Place.TheVariants.{Folder, File}
use Rattle.jl_folder.specs.declared.moves.Node.{Node}
use Rattle.jl_memory.specs.declared.tree.Tree.{Tree}
use Rattle.jl_text.specs.Paths.{PathView, path_eq}
use Rattle.jl_folder.specs.State.{State, place_at, node_at}

-- what the first entry with this path says
abbrev pub found : List (PathView × Option Place) → PathView → Option Place
found [] q = None
found (e ∷ es) q = cond (path_eq q e.0) e.1 (found es q)

-- the node of the first entry with this number
abbrev pub found_node : List (ℕ × Node) → ℕ → Option Node
found_node [] k = None
found_node (e ∷ es) k = cond (nat_eq k e.0) (Some e.1) (found_node es k)

-- the first entry that passes a test is changed, or others are put behind the list
abbrev pub with_first : {E : Type 0} → (E → Bool) → (E → E) → List E → List E → List E
with_first hit f others [] = others
with_first hit f others (e ∷ es) = cond (hit e) (f e ∷ es) (e ∷ with_first hit f others es)

-- the first entry with this path says something else, or a new entry does
abbrev pub with_place : List (PathView × Option Place) → PathView → Option Place → List (PathView × Option Place)
with_place es p what = with_first (λ e. path_eq e.0 p) (λ e. (e.0, what)) ((p, what) ∷ []) es

-- the first entry with this number has its node changed
abbrev pub with_node : (Node → Node) → List (ℕ × Node) → ℕ → List (ℕ × Node)
with_node f es n = with_first (λ e. nat_eq e.0 n) (λ e. (e.0, f e.1)) [] es

-- the tables answer as the state does
pub record Agrees (s : State) (places : List (PathView × Option Place)) (nodes : List (ℕ × Node)) : Type 0 where
  pub place_is : (q : PathView) → found places q ≡ place_at s q
  pub node_is : (k : ℕ) → found_node nodes k ≡ node_at s k

abbrev pub start_places : Tree → List (PathView × Place)
start_places t = ([], Folder) ∷ (([] ∷ []), Folder) ∷ (map (λ p. (p, Folder)) t.folders ++ map (λ e. (e.0, File e.1)) t.names)

-- the state that a tree stands for
abbrev pub state_of : Tree → State
state_of t = record { places = finmap.from_entries (start_places t); nodes = finmap.from_entries (enumerate_from 0 t.nodes) }
