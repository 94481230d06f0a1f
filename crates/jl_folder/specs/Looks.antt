-- The look-ups after a move, in terms of the look-ups before it.
use Rattle.std.specs.Prelude.{ℕ, cond, Option, None, Some, nat_eq, option_map}
use Rattle.jl_folder.specs.declared.moves.Place.{Place}
use Rattle.jl_folder.specs.declared.moves.Place.TheVariants.{Folder, File}
use Rattle.jl_folder.specs.declared.moves.Move.TheVariants.{MakeDir, Create, Append, Rename, Remove, RemoveDir}
use Rattle.jl_folder.specs.declared.moves.Node.{Node}
use Rattle.jl_text.specs.Paths.{PathView, path_eq}
use Rattle.jl_folder.specs.State.{State, Event, place_at, node_at, new_node, appended, frozen_node}

-- what q names after p, which named `what`, was renamed to p'
abbrev pub place_renamed : Option Place → PathView → PathView → PathView → Option Place → Option Place
place_renamed None p p' q here = here
place_renamed (Some Folder) p p' q here = here
place_renamed (Some (File n)) p p' q here = cond (path_eq q p') (Some (File n)) (cond (path_eq q p) None here)

abbrev pub place_after : State → Event → PathView → Option Place
place_after s (t, MakeDir p) q = cond (path_eq q p) (Some Folder) (place_at s q)
place_after s (t, Create p n) q = cond (path_eq q p) (Some (File n)) (place_at s q)
place_after s (t, Append n bytes) q = place_at s q
place_after s (t, Rename p p') q = place_renamed (place_at s p) p p' q (place_at s q)
place_after s (t, Remove p) q = cond (path_eq q p) None (place_at s q)
place_after s (t, RemoveDir p) q = cond (path_eq q p) None (place_at s q)

abbrev pub node_renamed : Option Place → ℕ → Option Node → Option Node
node_renamed None k here = here
node_renamed (Some Folder) k here = here
node_renamed (Some (File n)) k here = cond (nat_eq k n) (option_map frozen_node here) here

abbrev pub node_after : State → Event → ℕ → Option Node
node_after s (t, MakeDir p) k = node_at s k
node_after s (t, Create p n) k = cond (nat_eq k n) (Some (new_node t)) (node_at s k)
node_after s (t, Append n bytes) k = cond (nat_eq k n) (option_map (appended bytes) (node_at s k)) (node_at s k)
node_after s (t, Rename p p') k = node_renamed (place_at s p) k (node_at s k)
node_after s (t, Remove p) k = node_at s k
node_after s (t, RemoveDir p) k = node_at s k
