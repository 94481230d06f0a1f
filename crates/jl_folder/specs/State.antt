-- The state of a folder, and what a move makes of it.
use Rattle.std.specs.Prelude.{◌≡◌, ◌≢◌, ℕ, List, [], ◌∷◌, ◌++◌, Bool, true, false, ◌&&◌, not, cond, Option, None, Some, IsSome, length, drop, nat_eq, option_map, count_by}
use Rattle.std.specs.Str.{bytes_eq}
use Rattle.std.specs.Option.{option_map_or}
use Rattle.std.specs.Ordering.{nat_cmp}
use Rattle.std.specs.declared.cmp.Ordering.{Ordering}
use Rattle.std.specs.Cmp.Lexicographic.{slice_cmp}
use Rattle.std.specs.FinMap as finmap
use Rattle.jl_folder.specs.declared.moves.Place.{Place}
use Rattle.jl_folder.specs.declared.moves.Place.TheVariants.{Folder, File}
use Rattle.jl_folder.specs.declared.moves.Move.{Move}
use Rattle.jl_folder.specs.declared.moves.Move.TheVariants.{MakeDir, Create, Append, Rename, Remove, RemoveDir}
use Rattle.jl_folder.specs.declared.moves.Node.{Node}
use Rattle.jl_folder.specs.declared.moves.OpenFile.{OpenFile}
use Rattle.jl_text.specs.Paths.{PathView, is_fixed, parent}

-- the order of paths
abbrev pub path_cmp : PathView → PathView → Ordering
path_cmp = slice_cmp (slice_cmp nat_cmp)

-- what each path names, and the nodes by their numbers
pub record State : Type 0 where
  pub places : finmap.FinMap path_cmp Place
  pub nodes : finmap.FinMap nat_cmp Node

-- what the path names; all proofs go through this look-up and the next
abbrev pub place_at : State → PathView → Option Place
place_at s p = finmap.get s.places p

-- the node of this number
abbrev pub node_at : State → ℕ → Option Node
node_at s n = finmap.get s.nodes n

-- whether it is a folder
abbrev pub is_folder_place : Place → Bool
is_folder_place Folder = true
is_folder_place (File n) = false

-- whether the path names a folder
abbrev pub is_folder : State → PathView → Bool
is_folder s p = option_map_or is_folder_place (place_at s p) false

-- whether it is a file
abbrev pub is_file_place : Place → Bool
is_file_place Folder = false
is_file_place (File n) = true

-- whether the path names a file
abbrev pub is_file : State → PathView → Bool
is_file s p = option_map_or is_file_place (place_at s p) false

-- whether the parent is a folder
abbrev pub has_parent : State → PathView → Bool
has_parent s p = not (is_fixed p) && is_folder s (parent p)

-- no path has it as its parent
abbrev pub IsEmptyFolder : State → PathView → Type 0
IsEmptyFolder s p = (q : PathView) → is_fixed q ≡ false → parent q ≡ p → place_at s q ≡ None

-- a move with the token of the run that made it
abbrev pub Event : Type 0
Event = List ℕ × Move

-- moves, in order
abbrev pub Trace : Type 0
Trace = List Event

-- each move was made by another token
abbrev pub IsForeign : List ℕ → Trace → Type 0
IsForeign me [] = Unit {0}
IsForeign me (e ∷ es) = (e.0 ≢ me) × IsForeign me es

-- the move may be made in this state
abbrev pub Allowed : State → Move → Type 0
Allowed s (MakeDir p) = (place_at s p ≡ None) × (has_parent s p ≡ true)
Allowed s (Create p n) = (place_at s p ≡ None) × (has_parent s p ≡ true) × (node_at s n ≡ None)
Allowed s (Append n bytes) = IsSome (node_at s n)
Allowed s (Rename p q) = (p ≢ q) × (is_file s p ≡ true) × (has_parent s q ≡ true) × (is_folder s q ≡ false)
Allowed s (Remove p) = is_file s p ≡ true
Allowed s (RemoveDir p) = (is_folder s p ≡ true) × (is_fixed p ≡ false) × IsEmptyFolder s p

-- an empty node
abbrev pub new_node : List ℕ → Node
new_node token = record { bytes = []; maker = token; frozen = false }

-- a node with bytes at its end
abbrev pub appended : List ℕ → Node → Node
appended bytes v = record v { bytes = v.bytes ++ bytes }

-- a node that was renamed
abbrev pub frozen_node : Node → Node
frozen_node v = record v { frozen = true }

-- the nodes with the node of this number changed
abbrev pub changed : (Node → Node) → ℕ → finmap.FinMap nat_cmp Node → finmap.FinMap nat_cmp Node
changed f n nodes = option_map_or (λ v. finmap.insert nodes n (f v)) (finmap.get nodes n) nodes

-- the state in which q names what p named, if that was a file
abbrev pub renamed_to : State → PathView → PathView → Option Place → State
renamed_to s p q None = s
renamed_to s p q (Some Folder) = s
renamed_to s p q (Some (File n)) = record { places = finmap.insert (finmap.remove s.places p) q (File n); nodes = changed frozen_node n s.nodes }

-- the state after a move
abbrev pub after : State → Event → State
after s (t, MakeDir p) = record s { places = finmap.insert s.places p Folder }
after s (t, Create p n) = record { places = finmap.insert s.places p (File n); nodes = finmap.insert s.nodes n (new_node t) }
after s (t, Append n bytes) = record s { nodes = changed (appended bytes) n s.nodes }
after s (t, Rename p q) = renamed_to s p q (place_at s p)
after s (t, Remove p) = record s { places = finmap.remove s.places p }
after s (t, RemoveDir p) = record s { places = finmap.remove s.places p }

-- the state after moves
abbrev pub run : State → Trace → State
run s [] = s
run s (e ∷ es) = run (after s e) es

-- each move is allowed in the state that those before it leave
abbrev pub IsTrace : State → Trace → Type 0
IsTrace s [] = Unit {0}
IsTrace s (e ∷ es) = Allowed s e.1 × IsTrace (after s e) es

-- the two folders are there, what stands has a folder as its parent, and each name has its node
pub record IsState (s : State) : Type 0 where
  pub here : place_at s [] ≡ Some Folder
  pub top : place_at s ([] ∷ []) ≡ Some Folder
  pub parents : (p : PathView) → is_fixed p ≡ false → IsSome (place_at s p) → has_parent s p ≡ true
  pub nodes : (p : PathView) (n : ℕ) → place_at s p ≡ Some (File n) → IsSome (node_at s n)

-- nothing but the two folders that are always there
abbrev pub bare_state : State
bare_state = record { places = finmap.from_entries (([], Folder) ∷ ([] ∷ [], Folder) ∷ []); nodes = finmap.from_entries [] }

-- the open files by their numbers
abbrev pub Opens : Type 0
Opens = ℕ → Option OpenFile

-- one more open file
abbrev pub put_open : Opens → ℕ → OpenFile → Opens
put_open opens number file = λ k. cond (nat_eq k number) (Some file) (opens k)

-- a number is open no longer
abbrev pub closed : Opens → ℕ → Opens
closed opens number = λ k. cond (nat_eq k number) None (opens k)

-- how it began, and all moves since
pub record History : Type 0 where
  pub start : State
  pub trace : Trace

-- the state after all moves
abbrev pub now : History → State
now h = run h.start h.trace

-- the moves made from one history to a later one
abbrev pub since : History → History → Trace
since old new = drop (length old.trace) new.trace

-- it began as a state, each move was allowed, and each open file has its node
pub record IsHistory (h : History) (opens : Opens) : Type 0 where
  pub start : IsState h.start
  pub trace : IsTrace h.start h.trace
  pub nodes : (number : ℕ) (file : OpenFile) → opens number ≡ Some file → IsSome (node_at (now h) file.node)

-- P at the state after some of the moves
abbrev pub AtSome : State → Trace → (State → Type 0) → Type 0
AtSome s moves P = (before : Trace) × (later : Trace) × (moves ≡ before ++ later) × P (run s before)

-- P at the state after each number of the moves
abbrev pub AtEach : State → Trace → (State → Type 0) → Type 0
AtEach s moves P = (before later : Trace) → moves ≡ before ++ later → P (run s before)

-- the bytes of the node, where a file is named
abbrev pub bytes_of : State → Option Place → Option (List ℕ)
bytes_of s None = None
bytes_of s (Some Folder) = None
bytes_of s (Some (File n)) = option_map (λ v. v.bytes) (node_at s n)

-- the bytes of the file that the path names
abbrev pub bytes_at : State → PathView → Option (List ℕ)
bytes_at s p = bytes_of s (place_at s p)

-- how many of the moves have this token
abbrev pub own_moves : List ℕ → Trace → ℕ
own_moves token moves = count_by (λ e. bytes_eq e.0 token) moves
