-- The tree that a value stands for.
use Rattle.std.specs.Prelude.{ℕ, List, [], ◌∷◌, map}
use Rattle.jl_value.specs.Tree.{Tree, null, truth, whole, text, list, table, numbers, items_of, members_of}
use Rattle.jl_value.specs.declared.value.Value.{Value}
use Rattle.jl_value.specs.declared.value.Value.TheVariants.{Null, Truth, Whole, Text, List as Listed, Table, Numbers}

-- a value of the program as a tree
abbrev pub tree_of : Value → Tree
tree_of Null = null
tree_of (Truth b) = truth b
tree_of (Whole z) = whole z
tree_of (Text s) = text s
tree_of (Listed ts) = list (items_of ts)
tree_of (Table ms) = table (members_of ms)
tree_of (Numbers zs) = numbers zs

-- the members of a list
abbrev pub trees_of : List Value → List Tree
trees_of vs = map tree_of vs

-- the members of a table
abbrev pub entries_of : List (List ℕ × Value) → List (List ℕ × Tree)
entries_of es = map (λ e. (e.0, tree_of e.1)) es

-- the keys of members
abbrev pub keys_in : {A : Type 0} → List (List ℕ × A) → List (List ℕ)
keys_in [] = []
keys_in (e ∷ es) = e.0 ∷ keys_in es
